-- What is left of the files of a desk.
-- This project's own rule.
use Rattle.std.specs.Prelude.{◌≡◌, IsTrue, ⊤}
use Rattle.sqlite_disk.specs.declared.Disk as disk
use Rattle.sqlite_disk.specs.declared.Files.{Files}
use Rattle.sqlite_disk.specs.declared.modelled.Modelled.{Modelled}
use Rattle.sqlite_disk.specs.declared.start.Start.{Ghosts}
use Rattle.sqlite_std_file.specs.declared.host.Host.{Host}
use Rattle.sqlite.specs.Closing.{IsCopied}
use Rattle.sqlite.specs.Files.{file_state, over_files, image_of, FailsToClose, IsClosed, IsCleanLeft}
use Rattle.sqlite.specs.Held.{Held}
use Rattle.sqlite.specs.declared.error.Error.{Error}
use Rattle.sqlite.specs.declared.file.Leftover.{Leftover}
use Rattle.sqlite.specs.declared.file.Leftover.TheVariants as rests
use Rattle.sqlite_store.specs.FileStore.{recovers, view}
use Rattle.sqlite_store.specs.declared.store.FileStore.{FileStore}
use Rattle.sqlite_trees.specs.Tree.{Trees}
use Rattle.sqlite_trees.specs.View.{IsClean}
use Rattle.sqlite_wal.specs.Files.{image_at, outcomes}
use Rattle.sqlite_wal.specs.Reads.{AreClean}
use Rattle.sqlite_wal.specs.Recovery.{Image}
use Rattle.table_content.specs.Content.{Content}
use Rattle.desk_tables.specs.Files.{HoldDesk, LeaveDesk}
use Rattle.desk_tables.specs.Desk.{content_shown}
use Rattle.table_opening.specs.Shown.{HoldTables}
use Rattle.desk_tables.specs.declared.desk.TableDesk.{TableDesk}
use Rattle.program_jobs.specs.InFile.{FileDesk, host, file_disk, desk_in_file, keeping_in_file, IsKeptInFile, HasHonestFile}
use Rattle.program_jobs.specs.declared.left.LeftFiles.{LeftFiles}
use Rattle.program_jobs.specs.declared.left.LeftFiles.TheVariants.{Nothing, Untouched, Unconnected, Copied, Uncopied}

module _ {D : Type 0} {g : disk.Ghosts D} where
  -- what a desk's tables say, of which `desk_in_file` and `keeping_in_file` are
  abbrev pub content_in_file : TableDesk (FileStore D g) over_files → Content
  content_in_file d = content_shown d

  -- The desk's log was copied into its file: the two hold the desk, also after a crash.
  pub record AreCopied (d : TableDesk (FileStore D g) over_files) (files : Files D) : Type 0 where
    pub was_honest : HasHonestFile d
    pub hold : IsKeptInFile d → LeaveDesk g files (content_in_file d)

  -- The desk's log could not be copied, for this error.
  -- A crash leaves what it could have left before; that is the desk, unless a fault of the store
  -- had shut it.
  pub record AreUncopied (d : TableDesk (FileStore D g) over_files) (error : Error) (last : FileStore D g) : Type 0 where
    pub was_honest : HasHonestFile d
    pub why : FailsToClose d.conn last error
    pub crash : (db : Trees) → recovers last db → (file_state d.conn).may_leave db
    pub hold : IsKeptInFile d → IsTrue (file_state d.conn).is_open → (db : Trees) → recovers last db → HoldTables (content_in_file d) db

  -- the second desk is kept, and is the first one, with what is kept of messages
  pub record IsSameDesk {E : Type 0} {h : disk.Ghosts E} (d : TableDesk (FileStore D g) over_files)
      (again : TableDesk (FileStore E h) over_files) : Type 0 where
    pub kept : IsKeptInFile again
    pub desk : desk_in_file again ≡ desk_in_file d
    pub keeping : keeping_in_file again ≡ keeping_in_file d

module _ {S : Type 0} (start : Ghosts S) where
  -- what is left of files of the system
  abbrev pub FilesLeft : Type 0
  FilesLeft = LeftFiles (Modelled Host S host start) (file_disk start)

  -- this is left of a connection that is closed
  abbrev pub IsClosedTo : Held (FileStore (Modelled Host S host start) (file_disk start)) → FilesLeft → Type 0
  IsClosedTo conn Nothing = ⊥
  IsClosedTo conn (Untouched files) = ⊥
  IsClosedTo conn (Unconnected rest) = ⊥
  IsClosedTo conn (Copied files) = AreClean (file_disk start) files.log files.db → IsCopied conn files
  IsClosedTo conn (Uncopied error last) = IsClosed conn last × (IsClean (view last) → FailsToClose conn last error)

  -- this is left of the desk's files, as far as the disk was honest
  abbrev pub IsLeftBy : FileDesk start → FilesLeft → Type 0
  IsLeftBy d Nothing = ⊥
  IsLeftBy d (Untouched files) = ⊥
  IsLeftBy d (Unconnected rest) = ⊥
  IsLeftBy d (Copied files) = AreClean (file_disk start) files.log files.db → AreCopied d files
  IsLeftBy d (Uncopied error last) = IsClean (view last) → AreUncopied d error last

  -- what is left tells of no wrong answer of the disk
  abbrev pub IsHonestLeft : FilesLeft → Type 0
  IsHonestLeft Nothing = ⊤
  IsHonestLeft (Untouched files) = AreClean (file_disk start) files.log files.db
  IsHonestLeft (Unconnected rest) = IsCleanLeft rest
  IsHonestLeft (Copied files) = AreClean (file_disk start) files.log files.db
  IsHonestLeft (Uncopied error last) = IsClean (view last)

  -- no sync of the two files has failed
  abbrev pub AreUsable : Files (Modelled Host S host start) → Type 0
  AreUsable files = IsTrue ((file_disk start).is_usable files.log) × IsTrue ((file_disk start).is_usable files.db)

  -- the two files hold what they held as they were opened, and so they do after a crash
  pub record AreUntouched (files : Files (Modelled Host S host start)) : Type 0 where
    pub seen : image_of (file_disk start) files ≡ image_at start
    pub crash : (image : Image) → outcomes (file_disk start) files.log files.db image → image ≡ image_at start

  -- What is left of files to which no connection could be made still holds this desk, also after a
  -- crash.
  -- Where a log was being taken over, `LeavesFiles` alone says what it leaves.
  abbrev pub StaysIn : Content → Leftover (Modelled Host S host start) (file_disk start) → Type 0
  StaysIn c (rests.Files files) = (image : Image) → outcomes (file_disk start) files.log files.db image → HoldDesk image c
  StaysIn c (rests.Unopened files) = ⊤
  StaysIn c (rests.Store store) = (db : Trees) → recovers store db → HoldTables c db

  -- The same of what is left of files in which a desk was not opened, or made.
  abbrev pub StillHold : Content → FilesLeft → Type 0
  StillHold c Nothing = ⊤
  StillHold c (Untouched files) = (image : Image) → outcomes (file_disk start) files.log files.db image → HoldDesk image c
  StillHold c (Unconnected rest) = StaysIn c rest
  StillHold c (Copied files) = LeaveDesk (file_disk start) files c
  StillHold c (Uncopied error last) = (db : Trees) → recovers last db → HoldTables c db
