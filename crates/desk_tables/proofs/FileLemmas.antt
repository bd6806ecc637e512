-- What two files that hold a desk are opened as, and what a close leaves in them.
use Rattle.desk_tables.proofs.Imports.{HoldDesk, HoldCopy, LeaveDesk, IsFoundIn, HasContent, HoldsContent, HoldTables}
use Rattle.table_schema.proofs.Exports.{◌≡◌, inl, inr, sym, subst, HoldsAlone, IsCopied, file_state, HoldsDatabase, Held, State, Opens, IsLive, Content, IsKeptContent}
use Rattle.std.proofs.Math.Logic.{∥∥₁_elim}
use Rattle.sqlite_disk.specs.declared.Disk.{Ghosts}
use Rattle.sqlite_disk.specs.declared.Files.{Files}
use Rattle.sqlite_store.specs.declared.store.FileStore.{FileStore}
use Rattle.sqlite_trees.specs.Props.{Trees-set}
use Rattle.sqlite_trees.specs.Tree.{Trees}
use Rattle.sqlite_wal.specs.Recovery.{Image}
use Rattle.table_opening.proofs.HeldLemmas.{holds_tables, committed_tables, newest_held}

-- ---- files that are opened

-- the trees that are found in files that hold a desk hold it
pub found_trees : (image : Image) (db : Trees) (c : Content) → ((held : Trees) → HoldsDatabase image held → db ≡ held) → (desk : HoldDesk image c) → db ≡ desk.trees
found_trees image db c found desk = ∥∥₁_elim desk.database (Trees-set db desk.trees) (found desk.trees)

-- a connection to files that hold a desk shows it
pub found_content : (image : Image) (s : State) (c : Content) → Opens s → IsLive s → ((held : Trees) → HoldsDatabase image held → s.committed.trees ≡ held) → HoldDesk image c → HoldsContent c s
found_content image s c opens live found desk = holds_tables s desk.trees c opens live (found_trees image s.committed.trees c found desk) desk.tables

-- ---- files that are closed

module _ (db : Trees) (c : Content) (tables : HoldTables c db) (kept : IsKeptContent c) where
  held_alone : (image : Image) → HoldsAlone image db → HoldCopy image c
  held_alone image held =
      (record { trees = db; database = held.both; tables = tables; kept = kept }, record { trees = db; database = held.alone; tables = tables; kept = kept })

-- a close leaves the desk that the connection showed
pub closed_leaves : {D : Type 0} {g : Ghosts D} (conn : Held (FileStore D g)) (files : Files D) (c : Content) → IsCopied conn files → HasContent c (file_state conn) → IsKeptContent c
    → LeaveDesk g files c
closed_leaves conn files c copied shows kept =
    let db = (file_state conn).committed.trees in
    let tables : HoldTables c db = newest_held c db (committed_tables (file_state conn) c (shows copied.was_clean copied.was_open)) in
    record {
      now = held_alone db c tables kept _ copied.seen;
      crash = λ image may. held_alone db c tables kept image (copied.left image may);
    }

-- ---- from one to the next

-- what the next open finds holds the desk
pub found_holds : {D : Type 0} (g : Ghosts D) (files : Files D) (c : Content) → LeaveDesk g files c → (image : Image) → IsFoundIn g files image → HoldDesk image c
found_holds g files c left image (whole, may, is) = elim is [
  | inl same ↦ subst (λ i. HoldDesk i c) (sym same) (left.crash whole may).0
  | inr cut ↦ subst (λ i. HoldDesk i c) (sym cut) (left.crash whole may).1
]
