-- What the jobs do.
-- This project's own rule.
use Rattle.std.specs.Prelude.{ℕ, ◌≡◌, ◌⊎◌, ◌<◌, ◌≤◌, [], List, length, take, codes, Option, None, Some, Result, Ok, Err, OnOk, ⊤}
use Rattle.std.specs.Io.KnownBytes.{Appends}
use Rattle.sqlite_disk.specs.declared.start.Start.{Ghosts}
use Rattle.sqlite_wal.specs.Files.{image_at}
use Rattle.sqlite_wal.specs.Recovery.{Image}
use Rattle.base_words.specs.declared.named.TheConstants.{LARGEST_NUMBER}
use Rattle.bug_record.specs.Desk.{Desk}
use Rattle.base_words.specs.Texts.{IsText}
use Rattle.base_faults.specs.declared.store_fault.End.{End}
use Rattle.table_content.specs.Content.{Content}
use Rattle.desk_tables.specs.Files.{HoldDesk}
use Rattle.store_contract.specs.Crashes.{Holding}
use Rattle.store_contract.specs.Store.{Faults, Holds, no_faults, faults_after_end}
use Rattle.store_contract.specs.Message.{Entry, IsReceived}
use Rattle.store_contract.specs.Tried.{LeavesTried, tried_at}
use Rattle.store_keys.specs.Keys.{empty_desk}
use Rattle.control_lines.specs.Reading.{Known, Left}
use Rattle.control_lines.specs.declared.fault.ScriptFault.{ScriptFault}
use Rattle.control_lines.specs.declared.fault.ScriptFault.TheVariants.{Read}
use Rattle.message_receiving.specs.Crashes.{LeavesOnce}
use Rattle.message_receiving.specs.Ends.{IsLineOfSplit}
use Rattle.message_directives.specs.Transcripts.{received_text}
use Rattle.desk_run.specs.Script.{begin, script_of}
use Rattle.desk_run.specs.Running.{Ends, IsCounted, IsReadInPart}
use Rattle.desk_run.specs.Tried.{LeavesParts}
use Rattle.desk_run.specs.declared.script.ScriptEnd.{ScriptEnd}
use Rattle.desk_http.specs.Port.{Serves, place_line}
use Rattle.desk_http.specs.declared.port.ServerFault.{ServerFault}
use Rattle.desk_http.specs.declared.port.ServerFault.TheVariants.{Bind, Write}
use Rattle.program_options.specs.Message.{message_text}
use Rattle.program_options.specs.declared.job.Job.{Job}
use Rattle.program_options.specs.declared.job.Job.TheVariants.{Run, Init, Serve, Send}
use Rattle.desk_http.specs.Serving.{State, IsInTurn, IsServing}
use Rattle.http_answers.specs.Stored.{stored}
use Rattle.store_contract.specs.Kept.{Keeping, none_kept}
use Rattle.program_jobs.specs.Endings.{end_of_script, end_of_server, end_of_message}
use Rattle.control_lines.specs.Lines.{lines_of}
use Rattle.base_words.specs.Ids.{IsId}
use Rattle.store_contract.specs.declared.outcomes_so_far.Received.{Received}
use Rattle.message_receiving.specs.Once.{IsOnce, faults_after_once}
use Rattle.message_receiving.specs.declared.once.OnceFault.{OnceFault}
use Rattle.message_receiving.specs.declared.once.OnceFault.TheVariants.{BadId, Reused, Store as StoreFailed}
use Rattle.program_jobs.specs.InFile.{FileDesk, desk_in_file, keeping_in_file, IsKeptInFile, HasHonestFile, leaves_in_file, faults_in_file, IsOpenedInFile, IsNewInFile}
use Rattle.program_jobs.specs.Left.{FilesLeft, IsLeftBy}
use Rattle.program_jobs.specs.Refusals.{IsUnopened, IsUnmade}
use Rattle.program_jobs.specs.declared.left.LeftFiles.TheVariants.{Nothing}
use Rattle.program_jobs.specs.declared.ending.Cause.{Cause}
use Rattle.program_jobs.specs.declared.ending.Cause.TheVariants.{Memory, Output, Store}
use Rattle.program_jobs.specs.declared.ending.JobEnd.{JobEnd}
use Rattle.program_jobs.specs.declared.ending.JobEnd.TheVariants.{Done, Refused, BadWords, Fault}

-- The script of this input was run over an empty desk whose first number is 1, and ended so.
-- A desk in memory counts no fault, since it fails only where there is no memory.
pub record IsRun (input : List ℕ) (c0 c1 : Option (List ℕ)) (end : JobEnd) : Type 0 where
  pub result : Result ScriptEnd ScriptFault
  pub desk : Desk
  -- what its reader has left, if that is known
  pub rest : Option (List ℕ)
  pub ends : Ends input rest (record {
    from = begin (empty_desk 1);
    desk = desk;
    faults_before = no_faults;
    faults = no_faults;
    written_before = c0;
    written = c1;
  }) result
  pub end_is : end ≡ end_of_script result

-- A server was run on this port, for so many connections, and ended so.
-- Where it came to serve, the line that tells its port was written and nothing else, the desk was
-- empty and its first number 1, nothing was kept of messages, and its connections were served one
-- after another; a port that can't be listened on leaves nothing written.
pub record IsServer (port count : ℕ) (c0 c1 : Option (List ℕ)) (end : JobEnd) : Type 0 where
  pub result : Result (Unit {0}) ServerFault
  pub end_is : end ≡ end_of_server port result
  pub told : Serves result (Appends c0 c1 (place_line port))
  pub bind : result ≡ Err Bind → c1 ≡ c0
  -- what the store holds at the end, and its faults
  pub last : State
  pub served : Serves result (IsInTurn count (record { desk = empty_desk 1; kept = none_kept }, no_faults) last result)

-- nothing was written, and this is the end
abbrev pub EndsAtOnce : JobEnd → Option (List ℕ) → Option (List ℕ) → JobEnd → Type 0
EndsAtOnce wanted c0 c1 end = (end ≡ wanted) × (c1 ≡ c0)

-- this text was written, and the end is the one that was wanted; or a front of it was written, not
-- all, which is a fault
abbrev pub GivesText : JobEnd → List ℕ → Option (List ℕ) → Option (List ℕ) → JobEnd → Type 0
GivesText wanted text c0 c1 end = ((end ≡ wanted) × Appends c0 c1 text)
    ⊎ ((end ≡ Fault Output) × ((n : ℕ) × (n < length text) × Appends c0 c1 (take n text)))

-- A job over a store, whatever it is, which is old as the job begins and new as it ends.
module _ {S : Type 0} (is_kept is_honest : S → Type 0) (desk : S → Desk) (keeping : S → Keeping) (faults : S → Faults) where
  -- The script of what is left to read was run over the store's desk, and ended so; a crash then
  -- leaves the desk after some of its lines, and none that was answered is missing.
  pub record IsRunOver (leaves : S → Holding → Holding → Type 0) (r0 c0 c1 : Option (List ℕ)) (old new : S) (end : JobEnd) : Type 0
    where
      pub result : Result ScriptEnd ScriptFault
      pub end_is : end ≡ end_of_script result
      -- what its reader has left, if that is known
      pub rest : Option (List ℕ)
      pub ran : Holds is_kept is_honest old new (Known r0 (λ input. Ends input rest (record {
        from = begin (desk old);
        desk = desk new;
        faults_before = faults old;
        faults = faults new;
        written_before = c0;
        written = c1;
      }) result))
      pub stays : Holds is_kept is_honest old new (keeping new ≡ keeping old)
      pub left : Holds is_kept is_honest old new (Known r0 (λ input.
          LeavesParts leaves old new (keeping old) (script_of input) (begin (desk old)) (desk new) result))
      pub read : OnOk result (Left r0 rest (λ input left. left ≡ []))
      pub begun : result ≡ Err Read → Left r0 rest IsReadInPart
      pub counts : IsCounted result (faults old) (faults new)

  -- A server was run for the store's desk, and ended so.
  pub record IsServerOver (leaves : S → Holding → Holding → Type 0) (port count : ℕ) (c0 c1 : Option (List ℕ)) (old new : S) (end : JobEnd) : Type 0 where
    pub result : Result (Unit {0}) ServerFault
    pub end_is : end ≡ end_of_server port result
    pub served : Serves result (IsServing is_kept is_honest leaves (stored desk keeping) faults count old new None None result)
    pub told : Serves result (Appends c0 c1 (place_line port))
    pub bind : result ≡ Err Bind → (new ≡ old) × (c1 ≡ c0)
    pub write : result ≡ Err Write → new ≡ old

  -- A message was received, and came to these outcomes and this end; a crash then leaves the desk
  -- after its lines, or, where the store failed at one, after that line too.
  pub record IsReceivedOver (leaves : S → Holding → Holding → Type 0) (from : List ℕ) (lines : List (List ℕ)) (outcomes : List Entry)
      (last : End) (old new : S) : Type 0 where
    pub received : Holds is_kept is_honest old new (IsReceived from lines (desk old) outcomes last (desk new))
    -- what is kept of messages with an id stays
    pub stays : Holds is_kept is_honest old new (keeping new ≡ keeping old)
    pub left : Holds is_kept is_honest old new
        (LeavesTried leaves old new (keeping old) (desk old) (desk new) (tried_at from lines (desk old) last (desk new)))
    pub line : IsLineOfSplit last lines
    pub counts : faults new ≡ faults_after_end last (faults old)

-- What is written for a message that came to this, and how its job ends: the transcript is written,
-- whole; or a front of it, not all, or, where there is no memory for it, nothing, which are faults.
abbrev pub TellsMessage : List (List ℕ) → List Entry → End → Option (List ℕ) → Option (List ℕ) → JobEnd → Type 0
TellsMessage lines outcomes last c0 c1 end =
    ((end ≡ end_of_message outcomes last) × Appends c0 c1 (received_text outcomes last lines))
    ⊎ (((end ≡ Fault Output) × ((n : ℕ) × (n < length (received_text outcomes last lines))
    × Appends c0 c1 (take n (received_text outcomes last lines))))
    ⊎ EndsAtOnce (Fault Memory) c0 c1 end)

-- A message of this text was received by the store's desk and told, and the job ended so.
pub record IsSentOver {S : Type 0} (is_kept is_honest : S → Type 0) (desk : S → Desk) (keeping : S → Keeping)
    (faults : S → Faults) (leaves : S → Holding → Holding → Type 0) (from message : List ℕ) (c0 c1 : Option (List ℕ)) (old new : S)
    (end : JobEnd) : Type 0 where
  pub outcomes : List Entry
  pub last : End
  pub received : IsReceivedOver is_kept is_honest desk keeping faults leaves from (lines_of message) outcomes last old new
  pub told : TellsMessage (lines_of message) outcomes last c0 c1 end

-- what is written for a message with an id that came to this, and how its job ends
abbrev pub TellsOnce : List ℕ → Result Received OnceFault → Option (List ℕ) → Option (List ℕ) → JobEnd → Type 0
TellsOnce message (Ok received) c0 c1 end = TellsMessage (lines_of message) received.outcomes received.end c0 c1 end
TellsOnce message (Err BadId) c0 c1 end = EndsAtOnce BadWords c0 c1 end
TellsOnce message (Err Reused) c0 c1 end = GivesText Refused (codes "NO id in use\n") c0 c1 end
TellsOnce message (Err (StoreFailed fault)) c0 c1 end = EndsAtOnce (Fault (Store fault)) c0 c1 end

-- A message with this id was sent to the store's desk, and the job ended so; a crash then leaves
-- what is held after its lines, or, where the store failed at one, after that line too.
pub record IsSentOnceOver {S : Type 0} (is_kept is_honest : S → Type 0) (desk : S → Desk) (keeping : S → Keeping)
    (faults : S → Faults) (leaves : S → Holding → Holding → Type 0) (id from message : List ℕ) (c0 c1 : Option (List ℕ)) (old new : S)
    (end : JobEnd) : Type 0 where
  pub result : Result Received OnceFault
  pub once : Holds is_kept is_honest old new (IsOnce id from message (desk old) (keeping old) result (desk new) (keeping new))
  pub left : Holds is_kept is_honest old new
      (LeavesOnce leaves old new id from message (desk old, keeping old) result (desk new, keeping new))
  pub counts : faults new ≡ faults_after_once result (faults old)
  pub told : TellsOnce message result c0 c1 end

module _ {S : Type 0} (start : Ghosts S) where
  -- nothing was written, this is the end, and no desk was opened or made in a file
  abbrev pub EndsUnopened : JobEnd → Option (List ℕ) → Option (List ℕ) → JobEnd → FilesLeft start → Type 0
  EndsUnopened wanted c0 c1 end left = EndsAtOnce wanted c0 c1 end × (left ≡ Nothing)

  -- nothing was written, and the end is a fault with such a cause
  abbrev pub EndsFor : (Cause → FilesLeft start → Type 0) → Option (List ℕ) → Option (List ℕ) → JobEnd → FilesLeft start → Type 0
  EndsFor IsCause c0 c1 end left = (cause : Cause) × IsCause cause left × EndsAtOnce (Fault cause) c0 c1 end

  -- A job over the desk in a file: it can't be opened, or it was; then this is so of it as it was
  -- opened and as the job ends, and this is left of its files.
  abbrev pub IsOverFile : Option (List ℕ) → Option (List ℕ) → JobEnd → FilesLeft start → (FileDesk start → FileDesk start → Type 0) → Type 0
  IsOverFile c0 c1 end left P = EndsFor (IsUnopened start) c0 c1 end left
      ⊎ ((old : FileDesk start) × (new : FileDesk start) × IsOpenedInFile (image_at start) old × P old new × IsLeftBy start new left)

  -- A desk was made in files that held none, the line `OK` is written, and this is left of them.
  pub record IsMade (first : ℕ) (c0 c1 : Option (List ℕ)) (end : JobEnd) (left : FilesLeft start) : Type 0 where
    pub made : FileDesk start
    pub is_new : IsNewInFile (image_at start) first made
    pub told : GivesText Done (codes "OK\n") c0 c1 end
    pub left_by : IsLeftBy start made left

  -- the number of the first bug is from 1 to 999,999,999
  abbrev pub IsInit : ℕ → Option (List ℕ) → Option (List ℕ) → JobEnd → FilesLeft start → Type 0
  IsInit first c0 c1 end left =
      (¬ ((1 ≤ first) × (first ≤ LARGEST_NUMBER)) × EndsUnopened BadWords c0 c1 end left)
      ⊎ (EndsFor (IsUnmade start) c0 c1 end left ⊎ IsMade first c0 c1 end left)

  -- a sender is a text
  abbrev pub IsSentToFile : List ℕ → List (List ℕ) → Option (List ℕ) → Option (List ℕ) → JobEnd → FilesLeft start → Type 0
  IsSentToFile from lines c0 c1 end left =
      ((¬ IsText from) × EndsUnopened BadWords c0 c1 end left)
      ⊎ (IsText from × (EndsUnopened (Fault Memory) c0 c1 end left ⊎ IsOverFile c0 c1 end left (λ old new.
      IsSentOver IsKeptInFile HasHonestFile desk_in_file keeping_in_file faults_in_file leaves_in_file from (message_text lines)
      c0 c1 old new end)))

  -- an id is one, and a sender is a text
  abbrev pub IsSentOnceToFile : List ℕ → List ℕ → List (List ℕ) → Option (List ℕ) → Option (List ℕ) → JobEnd → FilesLeft start → Type 0
  IsSentOnceToFile id from lines c0 c1 end left =
      ((¬ (IsText from × IsId id)) × EndsUnopened BadWords c0 c1 end left)
      ⊎ ((IsText from × IsId id) × (EndsUnopened (Fault Memory) c0 c1 end left ⊎ IsOverFile c0 c1 end left (λ old new.
      IsSentOnceOver IsKeptInFile HasHonestFile desk_in_file keeping_in_file faults_in_file leaves_in_file id from (message_text lines)
      c0 c1 old new end)))

  -- What a job does, where these bytes are left to read, if they are known, and what it leaves of
  -- its files.
  abbrev pub IsJobLeaving : Job → Option (List ℕ) → Option (List ℕ) → Option (List ℕ) → JobEnd → FilesLeft start → Type 0
  IsJobLeaving (Run None) r0 c0 c1 end left = Known r0 (λ input. IsRun input c0 c1 end) × (left ≡ Nothing)
  IsJobLeaving (Run (Some store)) r0 c0 c1 end left = IsOverFile c0 c1 end left (λ old new.
      IsRunOver IsKeptInFile HasHonestFile desk_in_file keeping_in_file faults_in_file leaves_in_file r0 c0 c1 old new end)
  IsJobLeaving (Init store first) r0 c0 c1 end left = IsInit first c0 c1 end left
  IsJobLeaving (Serve None port count) r0 c0 c1 end left = IsServer port count c0 c1 end × (left ≡ Nothing)
  IsJobLeaving (Serve (Some store) port count) r0 c0 c1 end left = IsOverFile c0 c1 end left (λ old new.
      IsServerOver IsKeptInFile HasHonestFile desk_in_file keeping_in_file faults_in_file leaves_in_file port count c0 c1 old new end)
  IsJobLeaving (Send store from None lines) r0 c0 c1 end left = IsSentToFile from lines c0 c1 end left
  IsJobLeaving (Send store from (Some id) lines) r0 c0 c1 end left = IsSentOnceToFile id from lines c0 c1 end left

  -- what a job does, where something is left of its files that fits
  abbrev pub IsJobDone : Job → Option (List ℕ) → Option (List ℕ) → Option (List ℕ) → JobEnd → Type 0
  IsJobDone job r0 c0 c1 end = (left : FilesLeft start) × IsJobLeaving job r0 c0 c1 end left

-- the files hold a desk
abbrev pub HoldSome : Image → Type 0
HoldSome image = (c : Content) × HoldDesk image c

-- A desk is in the files as a job begins, unless it is the job that makes one, and made it: then it
-- is done, or the line that tells it could not be written.
abbrev pub HasItsDesk : Job → JobEnd → Image → Type 0
HasItsDesk (Init store first) end image = HoldSome image ⊎ ((end ≡ Done) ⊎ (end ≡ Fault Output))
HasItsDesk job end image = HoldSome image
