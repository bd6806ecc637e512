-- Files of which nothing but a length was asked.
use Rattle.std.proofs.Common.{◌≡◌, ◌⊎◌, ℕ, Bool, true, false, List, [], ◌∷◌, inl, inr, refl, sym, ap, ap₂, subst, ◌∙◌}
use Rattle.std.specs.Prelude.{if◌then◌else◌}
use Rattle.sqlite.specs.Files.{Finds, file_state, image_of}
use Rattle.sqlite.specs.Held.{Held}
use Rattle.sqlite.specs.Start.{FindsIn}
use Rattle.sqlite_disk.specs.Events.{Event, replay, settled}
use Rattle.sqlite_disk.specs.History.{MayLeave}
use Rattle.sqlite_disk.specs.declared.Files.{Files}
use Rattle.sqlite_disk.specs.declared.modelled.Modelled.{Modelled}
use Rattle.sqlite_disk.specs.declared.start.Start.{Ghosts}
use Rattle.sqlite_std_file.specs.File.{IsFresh}
use Rattle.sqlite_std_file.specs.declared.host.Host.{Host}
use Rattle.sqlite_store.specs.declared.store.FileStore.{FileStore}
use Rattle.sqlite_wal.specs.Files.{image_at}
use Rattle.sqlite_wal.specs.Recovery.{Image}
use Rattle.program_jobs.specs.InFile.{host, file_disk}
use Rattle.program_jobs.specs.Left.{AreUntouched}

abbrev image : List ℕ → List ℕ → Image
image log db = record { log = log; db = db }

module _ {S : Type 0} (start : Ghosts S) where
  abbrev File : Type 0
  File = Modelled Host S host start

  -- what the log or the database file held
  abbrev held : Bool → List ℕ
  held is_log = if is_log then start.log else start.db

  fresh_seen : (f : File) (is_log : Bool) → IsFresh is_log f → (file_disk start).seen f ≡ held is_log
  fresh_seen f is_log fresh = ap₂ (λ (b : Bool) (h : List Event). (replay (held b) h).seen) fresh.0 fresh.1

  fresh_leaves : (f : File) (is_log : Bool) → IsFresh is_log f → (c : List ℕ) → (file_disk start).may_leave f c → c ≡ held is_log
  fresh_leaves f is_log fresh c may =
      let which = subst (λ (b : Bool). let m = replay (held b) f.calls.log.events in MayLeave start.is_mixing m.seen m.synced m.steps c) fresh.0 may in
      let so : (c ≡ held is_log) ⊎ (c ≡ held is_log) =
      subst (λ (h : List Event). let m = replay (held is_log) h in MayLeave start.is_mixing m.seen m.synced m.steps c) fresh.1 which in
      elim so [ inl e ↦ e | inr e ↦ e ]

  pub fresh_untouched : (files : Files File) → IsFresh true files.log → IsFresh false files.db → AreUntouched start files
  fresh_untouched files log db = record {
    seen = ap₂ image (fresh_seen files.log true log) (fresh_seen files.db false db);
    crash = λ left may.
        ap₂ image (fresh_leaves files.log true log left.log may.0) (fresh_leaves files.db false db left.db may.1);
  }

  -- the length of the database file was asked
  pub asked_untouched : (files new : Files File) → new.log ≡ files.log → (file_disk start).seen new.db ≡ (file_disk start).seen files.db
      → ((c : List ℕ) → (file_disk start).may_leave new.db c → (file_disk start).may_leave files.db c)
      → AreUntouched start files → AreUntouched start new
  asked_untouched files new log seen leaves it = record {
    seen = ap₂ (λ (l : File) (d : List ℕ). image ((file_disk start).seen l) d) log seen ∙ it.seen;
    crash = λ left may. it.crash left (subst (λ (l : File). (file_disk start).may_leave l left.log) log may.0, leaves left.db may.1);
  }

  -- what a connection finds in them
  pub finds_in : (files : Files File) (conn : Held (FileStore File (file_disk start))) → AreUntouched start files → Finds files conn
      → FindsIn (image_at start) (file_state conn)
  finds_in files conn it found =
      subst (λ (i : Image). FindsIn i (file_state conn)) it.seen (record { holds = found.holds; reads = found.reads })
