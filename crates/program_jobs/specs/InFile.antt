-- A desk in a file, as a store.
use Rattle.std.specs.Prelude.{ℕ, ◌≡◌, false, []}
use Rattle.sqlite_disk.specs.Events.{replay}
use Rattle.sqlite_disk.specs.History.{MayLeave}
use Rattle.sqlite_disk.specs.Modelled.{start_of}
use Rattle.sqlite_disk.specs.declared.Disk as disk
use Rattle.sqlite_disk.specs.declared.calls.Calls as calls
use Rattle.sqlite_disk.specs.declared.modelled.Modelled.{Modelled}
use Rattle.sqlite_disk.specs.declared.start.Start.{Ghosts}
use Rattle.sqlite_disk.specs.declared.start.Wary.{Wary}
use Rattle.sqlite_std_file.specs.declared.host.Host.{Host}
use Rattle.sqlite.specs.State.{HasCleanDisk}
use Rattle.sqlite.specs.Files.{file_state, over_files}
use Rattle.sqlite_store.specs.declared.store.FileStore.{FileStore}
use Rattle.sqlite_wal.specs.Recovery.{Image}
use Rattle.bug_record.specs.Desk.{Desk}
use Rattle.store_keys.specs.Keys.{empty_desk}
use Rattle.store_contract.specs.Store.{Faults, no_faults}
use Rattle.table_content.specs.Content.{Content}
use Rattle.table_content.specs.View.{desk_in, keeping_in}
use Rattle.store_contract.specs.Kept.{Keeping, none_kept}
use Rattle.desk_tables.specs.Files.{HoldDesk}
use Rattle.store_contract.specs.Crashes.{Holding}
use Rattle.desk_tables.specs.Desk.{desk_of, keeping_of, HasKeptTables, LeavesTables}
use Rattle.desk_tables.specs.declared.desk.TableDesk.{TableDesk}

-- the calls of a file of the system, as `sqlite_std_file` notes them
abbrev pub host : calls.Ghosts Host
host = record { history = λ f. f.log.events }

module _ {S : Type 0} (start : Ghosts S) where
  -- a file of the system as a disk, of which `start` says what it held, as `sqlite_disk` has it
  abbrev pub file_disk : disk.Ghosts (Modelled Host S host start)
  file_disk = record {
    seen = λ f. (replay (start_of start f) (host.history f.calls)).seen;
    may_leave = λ f. let m = replay (start_of start f) (host.history f.calls) in MayLeave start.is_mixing m.seen m.synced m.steps;
    is_usable = λ f. (replay (start_of start f) (host.history f.calls)).is_usable;
    is_clean = λ f. (replay (start_of start f) (host.history f.calls)).is_honest;
    faults = λ f. (replay (start_of start f) (host.history f.calls)).faults;
    tally_of = λ f. let m = replay (start_of start f) (host.history f.calls) in record { caught = m.caught; refused = m.refused };
    key_of = λ f. (replay (start_of start f) (host.history f.calls)).key;
    is_fair = λ f. (replay (start_of start f) (host.history f.calls)).is_fair;
    is_frozen = λ _. false;
    is_rotten = λ _ _ _. false;
    is_mixing = λ _. start.is_mixing;
  }

  -- a desk over two such files
  abbrev pub FileDesk : Type 0
  FileDesk = TableDesk (FileStore (Modelled Host S host start) file_disk) over_files

module _ {D : Type 0} {g : disk.Ghosts D} where
  -- the content
  abbrev pub desk_in_file : TableDesk (FileStore D g) over_files → Desk
  desk_in_file d = desk_of d

  -- what is kept of messages that have an id
  abbrev pub keeping_in_file : TableDesk (FileStore D g) over_files → Keeping
  keeping_in_file d = keeping_of d

  -- the tables are kept
  abbrev pub IsKeptInFile : TableDesk (FileStore D g) over_files → Type 0
  IsKeptInFile d = HasKeptTables d

  -- so far the disk has returned what was written, and, at first, what the files held
  abbrev pub HasHonestFile : TableDesk (FileStore D g) over_files → Type 0
  HasHonestFile d = HasCleanDisk (file_state d.conn)

  -- a crash at this moment leaves the first holding or the second, and no other
  abbrev pub leaves_in_file : TableDesk (FileStore D g) over_files → Holding → Holding → Type 0
  leaves_in_file d a b = LeavesTables d a b

  -- how often the store has failed
  abbrev pub faults_in_file : TableDesk (FileStore D g) over_files → Faults
  faults_in_file d = d.counts

  -- A desk was opened: where the files held one, it is that desk.
  pub record IsOpenedInFile (image : Image) (d : TableDesk (FileStore D g) over_files) : Type 0 where
    pub uncounted : faults_in_file d ≡ no_faults
    pub found : (c : Content) → HoldDesk image c → HasHonestFile d
        → IsKeptInFile d × (desk_in_file d ≡ desk_in c) × (keeping_in_file d ≡ keeping_in c)

  -- A desk was made in files that held none, and is empty; its first bug gets this number.
  pub record IsNewInFile (image : Image) (first : ℕ) (d : TableDesk (FileStore D g) over_files) : Type 0 where
    pub blank : (c : Content) → HoldDesk image c → HasHonestFile d → ⊥
    pub kept : HasHonestFile d → IsKeptInFile d
    pub empty : HasHonestFile d → desk_in_file d ≡ empty_desk first
    pub none_kept : HasHonestFile d → keeping_in_file d ≡ none_kept
    pub uncounted : faults_in_file d ≡ no_faults

-- what is supposed of the files as the program opens them: nothing is known of what they held
abbrev pub wary : Ghosts Wary
wary = record { log = []; db = []; is_mixing = false }
