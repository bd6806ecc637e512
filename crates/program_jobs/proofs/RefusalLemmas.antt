-- Why no desk is opened in files, or made in them, and what is left of them then.
use Rattle.std.proofs.Common.{◌≡◌, ◌≢◌, ◌⊎◌, ◌↔◌, ◌<◌, ℕ, List, [], inl, inr, IsTrue, true, false, arith, refl, sym, ap, subst, ◌∙◌}
use Rattle.std.proofs.Math.Logic.{∥∥₁_elim}
use Rattle.std.proofs.lemmas.Bool.{cases_Bool}
use Rattle.sqlite.specs.Closing.{HoldsAlone, IsCopied}
use Rattle.sqlite.specs.Effect.{Database}
use Rattle.sqlite.specs.Files.{file_state, over_files, AreFoundIn, HoldsDatabase, IsCleanLeft, IsOpened, IsClosed}
use Rattle.sqlite.specs.Held.{Held}
use Rattle.sqlite.specs.declared.file.Leftover.{Leftover}
use Rattle.sqlite.specs.declared.file.Leftover.TheVariants as rests
use Rattle.sqlite.specs.Start.{FindsIn}
use Rattle.sqlite.specs.State.{State, HasCleanDisk, Survives}
use Rattle.sqlite_disk.specs.declared.Files.{Files}
use Rattle.sqlite_disk.specs.declared.modelled.Modelled.{Modelled}
use Rattle.sqlite_disk.specs.declared.start.Start.{Ghosts}
use Rattle.sqlite_std_file.specs.declared.host.Host.{Host}
use Rattle.sqlite_store.specs.FileStore.{recovers, view}
use Rattle.sqlite_store.specs.Laws.{settled_at}
use Rattle.sqlite_store.specs.declared.store.FileStore.{FileStore}
use Rattle.sqlite_trees.specs.Props.{Trees-set}
use Rattle.sqlite_trees.specs.Tree.{Trees}
use Rattle.sqlite_trees.specs.View.{IsClean}
use Rattle.sqlite_wal.specs.Files.{image_at, outcomes}
use Rattle.sqlite_wal.specs.Reads.{AreClean}
use Rattle.sqlite_wal.specs.Recovery.{Image}
use Rattle.base_faults.specs.declared.store_fault.StoreFault.{StoreFault}
use Rattle.base_faults.specs.declared.store_fault.StoreFault.TheVariants as stores
use Rattle.table_content.specs.Content.{Content}
use Rattle.table_history.specs.Names.{no_tables, has_desk_table}
use Rattle.table_history.specs.declared.history.TheConstants.{NEWEST}
use Rattle.table_opening.proofs.HeldLemmas.{holds_tables, newest_held, shows_tables}
use Rattle.table_opening.proofs.NameLemmas.{desk_table}
use Rattle.table_opening.specs.Opening.{unlimited, IsLeft, IsReason, IsStoreFailure}
use Rattle.table_opening.specs.Shown.{HasContentUnder, HoldsContent, HoldTables, AreTablesOf}
use Rattle.table_opening.specs.declared.open_fault.OpenFault.{OpenFault}
use Rattle.table_opening.specs.declared.open_fault.OpenFault.TheVariants as openings
use Rattle.desk_tables.specs.Files.{HoldDesk, HoldCopy, LeaveDesk}
use Rattle.program_jobs.specs.Endings.{cause_of_opening}
use Rattle.program_jobs.specs.InFile.{host, file_disk}
use Rattle.program_jobs.specs.Left.{FilesLeft, AreUntouched, IsClosedTo, IsHonestLeft, StaysIn, StillHold}
use Rattle.program_jobs.specs.Refusals.{IsFoundDatabase, SaysNoDesk, HasTables, IsWhyUnopened, IsWhyUnmade, IsRefused, IsUnconnected, IsOpenCause, IsInitCause, IsTurnedAway, IsUnopened, IsUnmade}
use Rattle.program_jobs.specs.declared.ending.Cause.{Cause}
use Rattle.program_jobs.specs.declared.ending.Cause.TheVariants.{NotADesk}
use Rattle.program_jobs.specs.declared.left.LeftFiles.TheVariants.{Nothing, Untouched, Unconnected, Copied, Uncopied}

-- ---- the schema of a desk

no_desk_table : (schema : _) → has_desk_table schema ≡ true → schema ≢ no_tables
no_desk_table schema has is = let no : has_desk_table no_tables ≡ true = subst (λ s. has_desk_table s ≡ true) is has in absurd (cc)

-- a database that says why it is not opened
says_no_desk : (old new : State) (fault : OpenFault) → IsReason old new fault → HasCleanDisk new → SaysNoDesk old.now fault
says_no_desk old new openings.NotADesk why clean = why clean
says_no_desk old new (openings.NewerSchema number) why clean = why clean
says_no_desk old new (openings.Store fault) why clean = why clean
says_no_desk old new openings.NotEmpty why clean = why

-- what the call that makes a desk says of a refusal
pub record Refuses (db : Database) (fault : OpenFault) : Type 0 where
  pub not_empty : (fault ≡ openings.NotEmpty) ↔ (has_desk_table db.schema ≡ true)
  pub foreign : has_desk_table db.schema ≡ false → db.schema ≢ no_tables → fault ≡ openings.Store stores.Foreign
  pub blank : db.schema ≡ no_tables → IsStoreFailure fault

-- where no table is a desk's
other_fault : (db : Database) (fault : OpenFault) → Refuses db fault → fault ≢ openings.NotEmpty → has_desk_table db.schema ≡ false
other_fault db fault it other = elim (cases_Bool (has_desk_table db.schema)) [ inl has ↦ absurd (other (it.not_empty.1 has)) | inr none ↦ none ]

-- a fault that comes neither of tables nor of the store
no_fault : {A : Type 0} (db : Database) (fault : OpenFault) → Refuses db fault → fault ≢ openings.NotEmpty → ((f : StoreFault) → fault ≢ openings.Store f) → A
no_fault db fault it other store =
    absurd (store stores.Foreign (it.foreign (other_fault db fault it other) (λ blank. let w = it.blank blank in store w.0 w.1)))

has_tables : (db : Database) (fault : OpenFault) → Refuses db fault → HasTables db fault
has_tables db openings.NotEmpty it = it.not_empty.0 refl
has_tables db (openings.Store fault) it = (
  other_fault db (openings.Store fault) it (λ e. absurd (cc)),
  (
    (λ is blank. let w = it.blank blank in let same : fault ≡ w.0 = (let e = w.1 in cc) in w.2 (sym same ∙ is)),
    (λ some. let e = it.foreign (other_fault db (openings.Store fault) it (λ e. absurd (cc))) some in cc),
  ),
)
has_tables db openings.NotADesk it = no_fault db openings.NotADesk it (λ e. absurd (cc)) (λ f e. absurd (cc))
has_tables db (openings.NewerSchema number) it = no_fault db (openings.NewerSchema number) it (λ e. absurd (cc)) (λ f e. absurd (cc))

-- ---- a connection that was made over files, and that is handed back

module _ {S : Type 0} (start : Ghosts S) where
  abbrev File : Type 0
  File = Modelled Host S host start

  abbrev Conn : Type 0
  Conn = Held (FileStore File (file_disk start))

  -- a connection as it was made
  pub record IsMade (conn : Conn) : Type 0 where
    pub opened : HasCleanDisk (file_state conn) → IsOpened conn
    pub found : HasCleanDisk (file_state conn) → FindsIn (image_at start) (file_state conn)

  module _ (conn : Conn) (made : IsMade conn) where
    found_database : HasCleanDisk (file_state conn) → IsFoundDatabase (image_at start) (file_state conn).now
    found_database clean =
        let is = made.opened clean in
        let trees : (file_state conn).now.trees ≡ (file_state conn).committed.trees = ap (λ (d : Database). d.trees) is.0.clean in
        record {
          reads = subst (λ (t : Trees). AreFoundIn (image_at start) t) (sym trees) (made.found clean).reads;
          holds = λ db held. trees ∙ (made.found clean).holds db held;
          sound = (is.1 is.0.is_open).0;
        }

    committed_is : (c : Content) (held : HoldDesk (image_at start) c) → HasCleanDisk (file_state conn) → (file_state conn).committed.trees ≡ held.trees
    committed_is c held clean = ∥∥₁_elim held.database (Trees-set _ _) ((made.found clean).holds held.trees)

    pub holds_content : (c : Content) → HoldDesk (image_at start) c → HasCleanDisk (file_state conn) → HoldsContent c (file_state conn)
    holds_content c held clean =
        let is = made.opened clean in
        holds_tables (file_state conn) held.trees c is.0 is.1 (committed_is c held clean) held.tables

    pub has_desk : (c : Content) → HoldDesk (image_at start) c → HasCleanDisk (file_state conn) → has_desk_table (file_state conn).now.schema ≡ true
    has_desk c held clean =
        let holds = holds_content c held clean in
        let shown = holds.1 clean (made.opened clean).0.is_open in
        ap has_desk_table shown.schema ∙ desk_table holds.0 shown.shown.some shown.shown.known

    module _ (now : Conn) (left : IsLeft (file_state conn) (file_state now)) where
      -- it is as clean as what is left tells
      was_clean : (last : FileStore File (file_disk start)) → IsClosed now last → IsClean (view last) → HasCleanDisk (file_state now)
      was_clean last closed clean = omega (arith, closed.quiet.clean, clean)

      refused : (IsWhy : OpenFault → Type 0) (cause : Cause) (fault : OpenFault) → cause ≡ cause_of_opening fault → (HasCleanDisk (file_state now) → IsWhy fault)
          → (rest : FilesLeft start) → IsClosedTo start now rest → IsRefused start IsWhy cause rest
      refused IsWhy cause fault is why (Copied files) closed = record { fault = fault; is = is; why = λ honest. why (closed honest).was_clean }
      refused IsWhy cause fault is why (Uncopied error last) closed = record { fault = fault; is = is; why = λ honest. why (was_clean last closed.0 honest) }
      refused IsWhy cause fault is why Nothing closed = absurd closed
      refused IsWhy cause fault is why (Untouched files) closed = absurd closed
      refused IsWhy cause fault is why (Unconnected rest) closed = absurd closed

      open_cause : (cause : Cause) (rest : FilesLeft start) → IsClosedTo start now rest → IsRefused start (IsWhyUnopened (image_at start)) cause rest → IsOpenCause start cause rest
      open_cause cause Nothing closed it = absurd closed
      open_cause cause (Untouched files) closed it = absurd closed
      open_cause cause (Unconnected rest) closed it = absurd closed
      open_cause cause (Copied files) closed it = it
      open_cause cause (Uncopied error last) closed it = it

      init_cause : (cause : Cause) (rest : FilesLeft start) → IsClosedTo start now rest → IsRefused start (IsWhyUnmade (image_at start)) cause rest → IsInitCause start cause rest
      init_cause cause Nothing closed it = absurd closed
      init_cause cause (Untouched files) closed it = absurd closed
      init_cause cause (Unconnected rest) closed it = absurd closed
      init_cause cause (Copied files) closed it = it
      init_cause cause (Uncopied error last) closed it = it

      module _ (c : Content) (held : HoldDesk (image_at start) c) where
        now_is : HasCleanDisk (file_state now) → IsTrue (file_state now).is_open → held.trees ≡ (file_state now).committed.trees
        now_is clean served =
            sym (committed_is c held (left.honest clean)) ∙ sym (ap (λ (d : Database). d.trees) (left.committed clean served))

        copy : HasCleanDisk (file_state now) → IsTrue (file_state now).is_open → (image : Image) → HoldsAlone image (file_state now).committed.trees → HoldCopy image c
        copy clean served image both =
            let tables = subst (HoldTables c) (now_is clean served) held.tables in (
              record { trees = (file_state now).committed.trees; database = both.both; tables = tables; kept = held.kept },
              record { trees = (file_state now).committed.trees; database = both.alone; tables = tables; kept = held.kept },
            )

        -- what a crash may leave, where the call commits a desk with this content, or none
        still_hold : (Commits : Trees → Type 0) → ((db : Trees) → Commits db → HoldTables c db)
            → (HasCleanDisk (file_state now) → Survives (unlimited (file_state conn)) (file_state now) Commits)
            → (rest : FilesLeft start) → IsClosedTo start now rest → IsHonestLeft start rest → StillHold start c rest
        still_hold Commits each survives (Copied files) closed honest =
            let it = closed honest in
            record { now = copy it.was_clean it.was_open _ it.seen; crash = λ image may. copy it.was_clean it.was_open image (it.left image may) }
        still_hold Commits each survives (Uncopied error last) closed honest = λ db may.
            let clean = was_clean last closed.0 honest in
            let conn_clean = left.honest clean in
            elim ((survives clean).crash clean db (closed.0.quiet.outcomes db may)) [
              | inl before ↦
                  subst (HoldTables c)
                  (sym (settled_at conn.store (λ f. inl refl) db (made.opened conn_clean).0.is_open before ∙ committed_is c held conn_clean)) held.tables
              | inr committed ↦ each db committed
            ]
        still_hold Commits each survives Nothing closed honest = absurd closed
        still_hold Commits each survives (Untouched files) closed honest = absurd closed
        still_hold Commits each survives (Unconnected rest) closed honest = absurd closed

      -- ---- the desk that is not opened

      pub unopened : (cause : Cause) (fault : OpenFault) (rest : FilesLeft start) → cause ≡ cause_of_opening fault → IsClosedTo start now rest
          → IsReason (file_state conn) (file_state now) fault
          → ((c : Content) → HoldsContent c (file_state conn) → HasCleanDisk (file_state now) → IsStoreFailure fault)
          → ((k : ℕ) (c : Content) → (HasCleanDisk (file_state now) → HasContentUnder k c (file_state conn))
          → Survives (unlimited (file_state conn)) (file_state now) (λ db. (k < NEWEST) × AreTablesOf c db))
          → IsUnopened start cause rest
      unopened cause fault rest is closed reason desk crash = record {
        why = open_cause cause rest closed (refused (IsWhyUnopened (image_at start)) cause fault is
            (λ clean. record {
              db = (file_state conn).now;
              found = found_database (left.honest clean);
              says = says_no_desk (file_state conn) (file_state now) fault reason clean;
              desk = λ c held. desk c (holds_content c held (left.honest clean)) clean;
            }) rest closed);
        still = λ honest c held.
            still_hold c held (λ db. (held.tables.0 < NEWEST) × AreTablesOf c db) (λ db it. newest_held c db it.1)
            (λ clean. crash held.tables.0 c (λ clean.
            let conn_clean = left.honest clean in let is = made.opened conn_clean in
            shows_tables (file_state conn) held.trees held.tables.0 c is.0 is.1 (committed_is c held conn_clean) held.tables.1))
            rest closed honest;
      }

      -- ---- the desk that is not made

      pub unmade : (cause : Cause) (fault : OpenFault) (rest : FilesLeft start) → cause ≡ cause_of_opening fault → IsClosedTo start now rest
          → (HasCleanDisk (file_state now) → Refuses (file_state conn).now fault)
          → ((file_state conn).now.schema ≢ no_tables → Survives (unlimited (file_state conn)) (file_state now) (λ db. ⊥))
          → IsUnmade start cause rest
      unmade cause fault rest is closed refuses spared = record {
        why = init_cause cause rest closed (refused (IsWhyUnmade (image_at start)) cause fault is
            (λ clean. record {
              db = (file_state conn).now;
              found = found_database (left.honest clean);
              has = has_tables (file_state conn).now fault (refuses clean);
              desk = λ c held. (refuses clean).not_empty.1 (has_desk c held (left.honest clean));
            }) rest closed);
        still = λ honest c held.
            still_hold c held (λ db. ⊥) (λ db none. absurd none)
            (λ clean. spared (no_desk_table (file_state conn).now.schema (has_desk c held (left.honest clean)))) rest closed honest;
      }

  -- ---- files to which no connection could be made

  unconnected_still : (cause : Cause) (rest : Leftover File (file_disk start)) → IsUnconnected start cause rest → IsCleanLeft rest
      → (c : Content) → HoldDesk (image_at start) c → StaysIn start c rest
  unconnected_still cause (rests.Files files) it clean c held = λ image may.
      subst (λ (i : Image). HoldDesk i c) (sym (it.untouched.crash image (it.leaves clean image may))) held
  unconnected_still cause (rests.Unopened files) it clean c held = tt
  unconnected_still cause (rests.Store store) it clean c held = λ db may.
      let left = it.leaves clean db may in
      let same : db ≡ held.trees = ∥∥₁_elim held.database (Trees-set _ _)
      (λ holds. left.1 held.trees (subst (λ (i : Image). HoldsDatabase i held.trees) (sym it.untouched.seen) holds)) in
      subst (HoldTables c) (sym same) held.tables

  pub unopened_files : (cause : Cause) (rest : Leftover File (file_disk start)) → IsUnconnected start cause rest → IsUnopened start cause (Unconnected rest)
  unopened_files cause rest it = record { why = it; still = λ honest c held. unconnected_still cause rest it honest c held }

  pub unmade_files : (cause : Cause) (rest : Leftover File (file_disk start)) → IsUnconnected start cause rest → IsUnmade start cause (Unconnected rest)
  unmade_files cause rest it = record { why = it; still = λ honest c held. unconnected_still cause rest it honest c held }

  -- an empty database file
  pub unopened_empty : (files : Files File) → AreUntouched start files → (AreClean (file_disk start) files.log files.db → (image_at start).db ≡ [])
      → IsUnopened start NotADesk (Untouched files)
  unopened_empty files it empty = record {
    why = (refl, empty);
    still = λ honest c held image may. subst (λ (i : Image). HoldDesk i c) (sym (it.crash image may)) held;
  }
