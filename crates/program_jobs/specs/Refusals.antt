-- Why no desk is opened in files, or made in them, and what is left of them then.
-- This project's own rule.
use Rattle.std.specs.Prelude.{◌≡◌, ◌≢◌, ◌⊎◌, ◌↔◌, ◌<◌, ⊤, false, true, []}
use Rattle.sqlite.specs.Effect.{Database, IsDatabase}
use Rattle.sqlite.specs.Files.{HoldsDatabase, AreFoundIn, IsCleanLeft, FailsToOpenFiles, LeavesFiles}
use Rattle.sqlite.specs.declared.error.Error.{Error}
use Rattle.sqlite.specs.declared.file.Leftover.{Leftover}
use Rattle.sqlite_disk.specs.declared.Files.{Files}
use Rattle.sqlite_disk.specs.declared.modelled.Modelled.{Modelled}
use Rattle.sqlite_disk.specs.declared.start.Start.{Ghosts}
use Rattle.sqlite_std_file.specs.declared.host.Host.{Host}
use Rattle.sqlite_trees.specs.Tree.{Trees}
use Rattle.sqlite_wal.specs.Files.{image_at}
use Rattle.sqlite_wal.specs.Reads.{AreClean}
use Rattle.sqlite_wal.specs.Recovery.{Image}
use Rattle.base_faults.specs.declared.store_fault.StoreFault.TheVariants as stores
use Rattle.table_content.specs.Content.{Content}
use Rattle.table_history.specs.Names.{no_tables, has_desk_table}
use Rattle.table_history.specs.Number.{SaysSchema, SaysNone}
use Rattle.table_history.specs.declared.history.TheConstants.{NEWEST}
use Rattle.table_opening.specs.Opening.{IsStoreFailure, SaysEarlier}
use Rattle.table_opening.specs.declared.open_fault.OpenFault.{OpenFault}
use Rattle.table_opening.specs.declared.open_fault.OpenFault.TheVariants as openings
use Rattle.desk_tables.specs.Files.{HoldDesk}
use Rattle.program_jobs.specs.Endings.{cause_of_error, cause_of_opening}
use Rattle.program_jobs.specs.InFile.{host, file_disk}
use Rattle.program_jobs.specs.Left.{FilesLeft, IsHonestLeft, AreUntouched, StillHold}
use Rattle.program_jobs.specs.declared.ending.Cause.{Cause}
use Rattle.program_jobs.specs.declared.ending.Cause.TheVariants.{Store, NoFile, InUse, NotADesk, CannotOpen}
use Rattle.program_jobs.specs.declared.left.LeftFiles.TheVariants.{Nothing, Untouched, Unconnected, Copied, Uncopied}

-- the database that is found in two files with these contents
pub record IsFoundDatabase (image : Image) (db : Database) : Type 0 where
  pub reads : AreFoundIn image db.trees
  pub holds : (trees : Trees) → HoldsDatabase image trees → db.trees ≡ trees
  pub sound : IsDatabase db

-- what a database says for which it is not opened as a desk
abbrev pub SaysNoDesk : Database → OpenFault → Type 0
SaysNoDesk db openings.NotADesk = SaysNone db
SaysNoDesk db (openings.NewerSchema number) = SaysSchema db number × (NEWEST < number)
SaysNoDesk db (openings.Store fault) = fault ≡ stores.Foreign → SaysEarlier db
SaysNoDesk db openings.NotEmpty = ⊥

-- what a database has for which no desk is made in it
abbrev pub HasTables : Database → OpenFault → Type 0
HasTables db openings.NotEmpty = has_desk_table db.schema ≡ true
HasTables db (openings.Store fault) = (has_desk_table db.schema ≡ false) × ((fault ≡ stores.Foreign) ↔ (db.schema ≢ no_tables))
HasTables db openings.NotADesk = ⊥
HasTables db (openings.NewerSchema number) = ⊥

-- Why no desk is opened in files that held this: what the database in them says, and a desk is
-- refused for a failure of the store alone.
pub record IsWhyUnopened (image : Image) (fault : OpenFault) : Type 0 where
  pub db : Database
  pub found : IsFoundDatabase image db
  pub says : SaysNoDesk db fault
  pub desk : (c : Content) → HoldDesk image c → IsStoreFailure fault

-- Why no desk is made in files that held this: the tables that are there, and where a desk is there
-- that is the reason.
pub record IsWhyUnmade (image : Image) (fault : OpenFault) : Type 0 where
  pub db : Database
  pub found : IsFoundDatabase image db
  pub has : HasTables db fault
  pub desk : (c : Content) → HoldDesk image c → fault ≡ openings.NotEmpty

-- the system told the cause before a file was opened, so no contract knows whether it is so
abbrev pub IsSystemCause : Cause → Type 0
IsSystemCause InUse = ⊤
IsSystemCause CannotOpen = ⊤
IsSystemCause (Store stores.Memory) = ⊤
IsSystemCause cause = ⊥

module _ {S : Type 0} (start : Ghosts S) where
  -- The files as they were opened were refused as a database's, for this error.
  pub record IsUnconnected (cause : Cause) (rest : Leftover (Modelled Host S host start) (file_disk start)) : Type 0 where
    pub error : Error
    pub is : cause ≡ cause_of_error error
    pub files : Files (Modelled Host S host start)
    pub untouched : AreUntouched start files
    pub why : IsCleanLeft rest → FailsToOpenFiles files rest error
    pub leaves : IsCleanLeft rest → LeavesFiles files rest

  -- the database in the files was refused for a fault that has such a reason
  pub record IsRefused (IsWhy : OpenFault → Type 0) (cause : Cause) (left : FilesLeft start) : Type 0 where
    pub fault : OpenFault
    pub is : cause ≡ cause_of_opening fault
    pub why : IsHonestLeft start left → IsWhy fault

  -- the cause for which a desk is not opened, by what is left
  abbrev pub IsOpenCause : Cause → FilesLeft start → Type 0
  IsOpenCause cause Nothing = (cause ≡ NoFile) ⊎ IsSystemCause cause
  IsOpenCause cause (Untouched files) = (cause ≡ NotADesk) × (AreClean (file_disk start) files.log files.db → (image_at start).db ≡ [])
  IsOpenCause cause (Unconnected rest) = IsUnconnected cause rest
  IsOpenCause cause (Copied files) = IsRefused (IsWhyUnopened (image_at start)) cause (Copied files)
  IsOpenCause cause (Uncopied error last) = IsRefused (IsWhyUnopened (image_at start)) cause (Uncopied error last)

  -- the cause for which none is made
  abbrev pub IsInitCause : Cause → FilesLeft start → Type 0
  IsInitCause cause Nothing = IsSystemCause cause
  IsInitCause cause (Untouched files) = ⊥
  IsInitCause cause (Unconnected rest) = IsUnconnected cause rest
  IsInitCause cause (Copied files) = IsRefused (IsWhyUnmade (image_at start)) cause (Copied files)
  IsInitCause cause (Uncopied error last) = IsRefused (IsWhyUnmade (image_at start)) cause (Uncopied error last)

  -- No desk is opened, or made: there is a cause for that, and a desk that the files held is there
  -- still.
  pub record IsTurnedAway (IsCause : Cause → FilesLeft start → Type 0) (cause : Cause) (left : FilesLeft start) : Type 0 where
    pub why : IsCause cause left
    pub still : IsHonestLeft start left → (c : Content) → HoldDesk (image_at start) c → StillHold start c left

  abbrev pub IsUnopened : Cause → FilesLeft start → Type 0
  IsUnopened = IsTurnedAway IsOpenCause

  abbrev pub IsUnmade : Cause → FilesLeft start → Type 0
  IsUnmade = IsTurnedAway IsInitCause
