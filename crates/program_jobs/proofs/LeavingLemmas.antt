-- What a job leaves in the files of its desk.
use Rattle.std.proofs.Common.{◌≡◌, ◌≢◌, ◌⊎◌, ◌∙◌, ℕ, List, Option, None, Some, Result, Ok, Err, inl, inr, refl, sym, subst}
use Rattle.sqlite.specs.Files.{over_files}
use Rattle.sqlite_disk.specs.declared.Disk as disk
use Rattle.sqlite_disk.specs.declared.Files.{Files}
use Rattle.sqlite_disk.specs.declared.modelled.Modelled.{Modelled}
use Rattle.sqlite_disk.specs.declared.start.Start.{Ghosts}
use Rattle.sqlite_store.specs.declared.store.FileStore.{FileStore}
use Rattle.sqlite_std_file.specs.declared.host.Host.{Host}
use Rattle.sqlite_wal.specs.Files.{image_at}
use Rattle.sqlite_wal.specs.Reads.{AreClean}
use Rattle.sqlite_wal.specs.Recovery.{Image}
use Rattle.http_answers.specs.Stored.{stored}
use Rattle.table_content.specs.Content.{Content}
use Rattle.desk_tables.specs.Files.{HoldDesk, LeaveDesk}
use Rattle.desk_tables.specs.declared.desk.TableDesk.{TableDesk}
use Rattle.desk_http.specs.Port.{Serves}
use Rattle.desk_http.specs.Serving.{IsServing}
use Rattle.desk_http.specs.declared.port.ServerFault.{ServerFault}
use Rattle.desk_http.specs.declared.port.ServerFault.TheVariants.{Bind, Write, Store}
use Rattle.program_options.specs.declared.job.Job.{Job}
use Rattle.program_options.specs.declared.job.Job.TheVariants.{Run, Init, Serve, Send}
use Rattle.program_jobs.specs.InFile.{FileDesk, file_disk, host, HasHonestFile, IsOpenedInFile, IsNewInFile, IsKeptInFile, desk_in_file, keeping_in_file, leaves_in_file, faults_in_file}
use Rattle.program_jobs.specs.Endings.{cause_of_opening}
use Rattle.program_jobs.specs.Jobs.{EndsFor, EndsUnopened, IsOverFile, IsInit, IsJobLeaving, HoldSome, HasItsDesk}
use Rattle.program_jobs.specs.Left.{AreCopied, content_in_file, FilesLeft}
use Rattle.program_jobs.specs.Refusals.{IsOpenCause, IsInitCause, IsTurnedAway}
use Rattle.program_jobs.specs.declared.ending.Cause.{Cause}
use Rattle.program_jobs.specs.declared.ending.Cause.TheVariants.{Output}
use Rattle.program_jobs.specs.declared.ending.JobEnd.{JobEnd}
use Rattle.program_jobs.specs.declared.ending.JobEnd.TheVariants.{Done, BadWords, Fault}
use Rattle.table_opening.specs.declared.open_fault.OpenFault.{OpenFault}
use Rattle.table_opening.specs.declared.open_fault.OpenFault.TheVariants as openings
use Rattle.program_jobs.specs.declared.left.LeftFiles.TheVariants.{Nothing, Copied}

-- the files are left with a desk
abbrev IsCopy : {D : Type 0} → disk.Ghosts D → Files D → Type 0
IsCopy g files = (c : Content) × LeaveDesk g files c

-- either, without another clause over it
one_of : {A B C : Type 0} → (A → C) → (B → C) → A ⊎ B → C
one_of first second (inl a) = first a
one_of first second (inr b) = second b

-- why no desk is opened is never the output
no_output : (fault : OpenFault) → cause_of_opening fault ≢ Output
no_output openings.NotADesk e = absurd (cc)
no_output (openings.NewerSchema number) e = absurd (cc)
no_output (openings.Store fault) e = absurd (cc)
no_output openings.NotEmpty e = absurd (cc)

same_cause : {a b : Cause} → Fault a ≡ Fault b → a ≡ b
same_cause e = cc

module _ {D : Type 0} {g : disk.Ghosts D} (files : Files D) where
  -- what goes from one desk to another wins no honesty, and keeps it kept
  abbrev Keeps : TableDesk (FileStore D g) over_files → TableDesk (FileStore D g) over_files → Type 0
  Keeps old new = HasHonestFile new → HasHonestFile old × (IsKeptInFile old → IsKeptInFile new)

  over : (image : Image) (c : Content) → HoldDesk image c → (old new : TableDesk (FileStore D g) over_files) → IsOpenedInFile image old
      → Keeps old new → AreCopied new files → IsCopy g files
  over image c held old new opened keeps it =
      let stays = keeps it.was_honest in
      (content_in_file new, it.hold (stays.1 (opened.found c held stays.0).0))

  made : (image : Image) (first : ℕ) (d : TableDesk (FileStore D g) over_files) → IsNewInFile image first d → AreCopied d files → IsCopy g files
  made image first d new it = (content_in_file d, it.hold (new.kept it.was_honest))

  stayed : (old new : TableDesk (FileStore D g) over_files) → new ≡ old → Keeps old new
  stayed old new same honest = (subst HasHonestFile same honest, λ kept. subst IsKeptInFile (sym same) kept)

  served : (count : ℕ) (old new : TableDesk (FileStore D g) over_files) (result : Result (Unit {0}) ServerFault)
      → Serves result (IsServing IsKeptInFile HasHonestFile leaves_in_file (stored desk_in_file keeping_in_file) faults_in_file count old new None None result)
      → (result ≡ Err Bind → new ≡ old) → (result ≡ Err Write → new ≡ old) → Keeps old new
  served count old new (Ok done) it bind write honest = (it.leaves.honest honest, λ kept. it.leaves.kept kept honest)
  served count old new (Err Store) it bind write honest = (it.leaves.honest honest, λ kept. it.leaves.kept kept honest)
  served count old new (Err Bind) it bind write honest = stayed old new (bind refl) honest
  served count old new (Err Write) it bind write honest = stayed old new (write refl) honest

module _ {S : Type 0} (start : Ghosts S) (files : Files (Modelled Host S host start)) (clean : AreClean (file_disk start) files.log files.db) where
  none : {A : Type 0} → (left : FilesLeft start) → left ≡ Copied files → left ≡ Nothing → A
  none left is e = absurd (cc)

  refused : {A N : Type 0} (wanted : JobEnd) (c0 c1 : Option (List ℕ)) (end : JobEnd) → N × EndsUnopened start wanted c0 c1 end (Copied files) → A
  refused wanted c0 c1 end (why, ends) = none (Copied files) refl ends.1

  -- a desk that was not opened, or made, is there still
  turned_away : (IsCause : Cause → FilesLeft start → Type 0) (c0 c1 : Option (List ℕ)) (end : JobEnd) → EndsFor start (IsTurnedAway start IsCause) c0 c1 end (Copied files)
      → (c : Content) → HoldDesk (image_at start) c → LeaveDesk (file_disk start) files c
  turned_away IsCause c0 c1 end (cause, it, ends) c held = it.still clean c held

  over_file : (c0 c1 : Option (List ℕ)) (end : JobEnd) (P : FileDesk start → FileDesk start → Type 0)
      → ((old new : FileDesk start) → P old new → HasHonestFile new → HasHonestFile old × (IsKeptInFile old → IsKeptInFile new))
      → (c : Content) → HoldDesk (image_at start) c → IsOverFile start c0 c1 end (Copied files) P → IsCopy (file_disk start) files
  over_file c0 c1 end P keeps c held =
      one_of (λ away. (c, turned_away (IsOpenCause start) c0 c1 end away c held))
      (λ it. over files (image_at start) c held it.0 it.1 it.2 (keeps it.0 it.1 it.3) (it.4 clean))

  -- the job that makes a desk leaves the one that was there, and it alone
  pub kept_by_init : (first : ℕ) (c0 c1 : Option (List ℕ)) (end : JobEnd) → IsInit start first c0 c1 end (Copied files)
      → (c : Content) → HoldDesk (image_at start) c → LeaveDesk (file_disk start) files c
  kept_by_init first c0 c1 end did c held =
      one_of (refused BadWords c0 c1 end)
      (one_of (λ away. turned_away (IsInitCause start) c0 c1 end away c held)
      (λ it. absurd (it.is_new.blank c held (it.left_by clean).was_honest))) did

  -- what did not make a desk ended otherwise
  unmade_end : (cause : Cause) → IsInitCause start cause (Copied files) → cause ≢ Output
  unmade_end cause it is = no_output it.fault (sym it.is ∙ is)

  made_or_kept : (first : ℕ) (c0 c1 : Option (List ℕ)) (end : JobEnd) → IsInit start first c0 c1 end (Copied files)
      → HoldSome (image_at start) ⊎ ((end ≡ Done) ⊎ (end ≡ Fault Output)) → IsCopy (file_disk start) files
  made_or_kept first c0 c1 end did (inl (c, held)) = (c, kept_by_init first c0 c1 end did c held)
  made_or_kept first c0 c1 end did (inr ended) =
      one_of (refused BadWords c0 c1 end)
      (one_of (λ away. elim ended [
        | inl done ↦ absurd (let is = away.2.0 in cc)
        | inr lost ↦ absurd (unmade_end away.0 away.1.why (same_cause (sym away.2.0 ∙ lost)))
      ])
      (λ it. made files (image_at start) first it.made it.is_new (it.left_by clean))) did

  pub leaves : (job : Job) (r0 c0 c1 : Option (List ℕ)) (end : JobEnd) → IsJobLeaving start job r0 c0 c1 end (Copied files)
      → HasItsDesk job end (image_at start) → IsCopy (file_disk start) files
  leaves (Run None) r0 c0 c1 end did held = none (Copied files) refl did.1
  leaves (Run (Some store)) r0 c0 c1 end did held =
      over_file c0 c1 end _ (λ old new it honest. (it.ran.honest honest, λ kept. it.ran.kept kept honest)) held.0 held.1 did
  leaves (Init store first) r0 c0 c1 end did held = made_or_kept first c0 c1 end did held
  leaves (Serve None port count) r0 c0 c1 end did held = none (Copied files) refl did.1
  leaves (Serve (Some store) port count) r0 c0 c1 end did held =
      over_file c0 c1 end _ (λ old new it. served files count old new it.result it.served (λ e. (it.bind e).0) it.write) held.0 held.1 did
  leaves (Send store from None lines) r0 c0 c1 end did held =
      one_of (refused BadWords c0 c1 end)
      (λ it. one_of (λ ends. none (Copied files) refl ends.1)
      (over_file c0 c1 end _ (λ old new s honest. (s.received.received.honest honest, λ kept. s.received.received.kept kept honest)) held.0 held.1) it.1) did
  leaves (Send store from (Some id) lines) r0 c0 c1 end did held =
      one_of (refused BadWords c0 c1 end)
      (λ it. one_of (λ ends. none (Copied files) refl ends.1)
      (over_file c0 c1 end _ (λ old new s honest. (s.once.honest honest, λ kept. s.once.kept kept honest)) held.0 held.1) it.1) did
