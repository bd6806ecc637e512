-- What a close leaves in the two files, and what is opened over two files.
use Rattle.std.proofs.Common.{◌≡◌, Option, None, Some, IfSome, sym, subst}
use Rattle.sqlite.specs.Files.{file_state, image_of, over_files, Finds, IsClosed}
use Rattle.sqlite.specs.Held.{Held}
use Rattle.sqlite.specs.State.{HasCleanDisk}
use Rattle.sqlite_disk.specs.declared.Disk.{Ghosts}
use Rattle.sqlite_disk.specs.declared.Files.{Files}
use Rattle.sqlite_store.specs.FileStore.{recovers}
use Rattle.sqlite_store.specs.declared.store.FileStore.{FileStore}
use Rattle.sqlite_trees.specs.Tree.{Trees}
use Rattle.sqlite_wal.specs.Reads.{AreClean}
use Rattle.bug_record.specs.Desk.{Desk}
use Rattle.store_contract.specs.Kept.{Keeping}
use Rattle.table_content.specs.Content.{Content}
use Rattle.table_content.specs.View.{desk_in, keeping_in}
use Rattle.desk_tables.specs.Files.{HoldDesk, LeaveDesk}
use Rattle.desk_tables.specs.Desk.{content_shown, desk_of, keeping_of}
use Rattle.table_opening.specs.Shown.{AreTablesOf, HoldTables}
use Rattle.desk_tables.specs.declared.desk.TableDesk.{TableDesk}
use Rattle.desk_tables.proofs.FileLemmas.{found_trees}
use Rattle.table_crashes.specs.Settled.{HasHonestDisk, HasKeptTables, IsSettled, IsOpenedOver}

module _ {D : Type 0} {g : Ghosts D} where
  -- ---- what is opened, if it is

  pub files_honest : (o : Option (TableDesk (FileStore D g) over_files)) (conn : Held (FileStore D g)) (files : Files D) → (HasCleanDisk (file_state conn) → Finds files conn)
      → IfSome o (λ again. HasHonestDisk over_files again → HasCleanDisk (file_state conn))
      → IfSome o (λ again. HasHonestDisk over_files again → AreClean g files.log files.db)
  files_honest None conn files found clean = tt
  files_honest (Some again) conn files found clean = λ h. (found (clean h)).honest

  -- the two files hold the desk that is opened
  abbrev pub FindsDesk : Option (TableDesk (FileStore D g) over_files) → Files D → Type 0
  FindsDesk o files = IfSome o (λ again. HasHonestDisk over_files again → (c : Content) → HoldDesk (image_of g files) c → IsSettled over_files (desk_in c) (keeping_in c) again)

  pub files_found : (o : Option (TableDesk (FileStore D g) over_files)) (conn : Held (FileStore D g)) (files : Files D) → (HasCleanDisk (file_state conn) → Finds files conn)
      → IfSome o (λ again. HasHonestDisk over_files again → HasCleanDisk (file_state conn))
      → IfSome o (λ again. HasHonestDisk over_files again → IsOpenedOver over_files (file_state conn).committed.trees again)
      → FindsDesk o files
  files_found None conn files found clean opened = tt
  files_found (Some again) conn files found clean opened = λ h c held.
      let is = found_trees (image_of g files) (file_state conn).committed.trees c (found (clean h)).holds held in
      opened h c (subst (HoldTables c) (sym is) held.tables) held.kept

  -- ---- a desk that is closed

  abbrev content : TableDesk (FileStore D g) over_files → Content
  content t = content_shown t

  -- where closing failed, a crash leaves the desk that was settled
  pub failed_leaves : (old : TableDesk (FileStore D g) over_files) (conn : Held (FileStore D g)) (last : FileStore D g) → conn ≡ old.conn → IsClosed conn last
      → (d : Desk) (k : Keeping) → IsSettled over_files d k old → (db : Trees) → recovers last db → AreTablesOf (content old) db
  failed_leaves old conn last is closed d k was db may =
      let before = subst (λ (h : Held (FileStore D g)). (file_state h).may_leave db) is (closed.quiet.outcomes db may) in
      subst (AreTablesOf (content old)) (sym (was.left db before)) was.tables

  module _ (o : Option (TableDesk (FileStore D g) over_files)) (old : TableDesk (FileStore D g) over_files) (files : Files D)
      (left : AreClean g files.log files.db → HasKeptTables over_files old → LeaveDesk g files (content old)) where
    abbrev IsAgain : Option (TableDesk (FileStore D g) over_files) → Type 0
    IsAgain o = IfSome o (λ again. HasHonestDisk over_files again → HasKeptTables over_files old → IsSettled over_files (desk_of old) (keeping_of old) again)

    -- it is opened again
    pub closed_then : IfSome o (λ again. HasHonestDisk over_files again → AreClean g files.log files.db) → FindsDesk o files → IsAgain o
    closed_then = on o
      where
        on : (o : Option (TableDesk (FileStore D g) over_files)) → IfSome o (λ again. HasHonestDisk over_files again → AreClean g files.log files.db) → FindsDesk o files → IsAgain o
        on None honest found = tt
        on (Some again) honest found = λ h kept. found h (content old) (left (honest h) kept).now.0
