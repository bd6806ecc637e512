-- What is kept of messages that have an id, beside the desk: of each id that is known its sender,
-- its text, and the outcomes of its first lines that have one.
-- This project's own rule.
use Rattle.std.specs.Prelude.{ℕ, ◌≡◌, ◌≢◌, ◌<◌, ◌≤◌, ◌-◌, Bool, true, false, List, [], ◌∷◌, ◌++◌, length, map, filter}
use Rattle.std.specs.Prelude.{take, drop, zip, slice_get, Option, Some, None, Result, Ok, Err, if◌then◌else◌, ⊤}
use Rattle.std.specs.Str.{bytes_eq}
use Rattle.version_nodes.specs.Nodes.{IsNode}
use Rattle.bug_record.specs.Clones.{name_refusal}
use Rattle.bug_record.specs.Commands.{names_in}
use Rattle.bug_record.specs.Desk.{Desk}
use Rattle.bug_record.specs.Sets.{Each, IsAscending}
use Rattle.base_words.specs.Texts.{IsText}
use Rattle.bug_record.specs.Words.{Names}
use Rattle.bug_record.specs.declared.command.Command.{Command}
use Rattle.bug_record.specs.declared.command.Command.TheVariants as commands
use Rattle.bug_record.specs.declared.command.Refusal.{Refusal}
use Rattle.bug_record.specs.declared.command.Refusal.TheVariants as refusals
use Rattle.control_grammar.specs.Lines.{reading}
use Rattle.control_grammar.specs.declared.line.Line.{Line}
use Rattle.control_grammar.specs.declared.line.Line.TheVariants.{Blank, Comment, Stop, Do}
use Rattle.control_lines.specs.Lines.{lines_of}
use Rattle.bug_record.specs.declared.outcome.Outcome.{Outcome}
use Rattle.bug_record.specs.declared.outcome.Outcome.TheVariants.{Changed, Refused, Stopped}
use Rattle.base_faults.specs.declared.store_fault.End.{End}
use Rattle.base_faults.specs.declared.store_fault.End.TheVariants as ends
use Rattle.base_words.specs.Ids.{IsId}
use Rattle.base_words.specs.Numbers.{IsGoodNumber}
use Rattle.base_words.specs.declared.named.Named.{Named}
use Rattle.store_contract.specs.Message.{Entry, machine, takes, after_lines, end_of, names_given}
use Rattle.store_contract.specs.declared.kept.Kept.{Kept}

-- what is kept: of each known id its message
abbrev pub Keeping : Type 0
Keeping = List ℕ → Option Kept

abbrev pub none_kept : Keeping
none_kept id = None

-- ---- lines and outcomes

-- a line has an outcome unless it is blank or a comment
abbrev pub reads_as_command : Result Line Refusal → Bool
reads_as_command (Ok Blank) = false
reads_as_command (Ok Comment) = false
reads_as_command (Ok Stop) = true
reads_as_command (Ok (Do command)) = true
reads_as_command (Err refusal) = true

abbrev pub has_outcome : List ℕ → Bool
has_outcome line = reads_as_command (reading line)

-- the lines that have an outcome, to which kept outcomes belong in order
abbrev pub lines_told : List (List ℕ) → List (List ℕ)
lines_told lines = filter has_outcome lines

-- the first of these lines that have an outcome, each with its own
abbrev pub told : List (List ℕ) → List Outcome → List Entry
told lines outcomes = zip (lines_told lines) outcomes

abbrev pub outcomes_in : List Entry → List Outcome
outcomes_in entries = map (λ entry. entry.1) entries

-- ---- what may be kept

-- its numbers are from 1 to 999,999,999, and its node is one
abbrev pub IsGoodRefusal : Refusal → Type 0
IsGoodRefusal (refusals.NoName k) = IsGoodNumber k
IsGoodRefusal (refusals.NoBug n) = IsGoodNumber n
IsGoodRefusal (refusals.Archived n) = IsGoodNumber n
IsGoodRefusal (refusals.NotArchived n) = IsGoodNumber n
IsGoodRefusal (refusals.Differ field n) = IsGoodNumber n
IsGoodRefusal (refusals.NotMerged n) = IsGoodNumber n
IsGoodRefusal (refusals.Merged n) = IsGoodNumber n
IsGoodRefusal (refusals.NameTaken k) = IsGoodNumber k
IsGoodRefusal (refusals.OwnSet n) = IsGoodNumber n
IsGoodRefusal (refusals.NotDone n) = IsGoodNumber n
IsGoodRefusal (refusals.StillFound node) = IsNode node
IsGoodRefusal refusal = ⊤

-- changed numbers ascend, and are from 1 to 999,999,999
abbrev pub IsGoodOutcome : Outcome → Type 0
IsGoodOutcome (Changed numbers) = IsAscending numbers × Each IsGoodNumber numbers
IsGoodOutcome (Refused refusal) = IsGoodRefusal refusal
IsGoodOutcome Stopped = ⊤

-- the names that a line which reads so gives where this is its outcome: those of an accepted
-- `clone`
abbrev pub names_by : Result Line Refusal → Outcome → List ℕ
names_by (Ok (Do command)) (Changed numbers) = names_in command
names_by read outcome = []

abbrev pub new_names : Entry → List ℕ
new_names entry = names_by (reading entry.0) entry.1

-- the numbers of the copies that an accepted command makes
abbrev pub copies_of : Command Named → List ℕ → List ℕ
copies_of (commands.Clone n ks) numbers = numbers
copies_of command numbers = []

-- those of a line which reads so where this is its outcome
abbrev pub copies_by : Result Line Refusal → Outcome → List ℕ
copies_by (Ok (Do command)) (Changed numbers) = copies_of command numbers
copies_by read outcome = []

abbrev pub new_copies : Entry → List ℕ
new_copies entry = copies_by (reading entry.0) entry.1

-- after lines that gave these names, those of each line could be given: none is known, and none
-- stands twice; and there are as many copies as names
abbrev pub GiveNames : Names → List Entry → Type 0
GiveNames names [] = ⊤
GiveNames names (entry ∷ entries) =
    (name_refusal names (new_names entry) ≡ None) × (length (new_copies entry) ≡ length (new_names entry))
    × GiveNames (names ++ names_given entry) entries

-- What is kept of a message is right: there is an outcome, and at most one for each line that has
-- one; none stands after one that ends the message; and names are given once, each with its number
-- and no number without a name.
pub record IsGoodKept (k : Kept) : Type 0 where
  pub sender : IsText k.from
  pub some : k.outcomes ≢ []
  pub few : length k.outcomes ≤ length (lines_told (lines_of k.message))
  pub goes_on : end_of (told (lines_of k.message) (take (length k.outcomes - 1) k.outcomes)) ≡ ends.All
  pub names : GiveNames [] (told (lines_of k.message) k.outcomes)
  pub outcomes : Each IsGoodOutcome k.outcomes

-- each id that is known is one, and what is kept of it is right
abbrev pub AreGoodKept : Keeping → Type 0
AreGoodKept kept = (id : List ℕ) (k : Kept) → kept id ≡ Some k → IsId id × IsGoodKept k

-- ---- one outcome more

-- the outcomes that are kept of an id, if it is known
abbrev pub outcomes_kept : Option Kept → List Outcome
outcomes_kept None = []
outcomes_kept (Some k) = k.outcomes

-- the id is not known, or with this sender and this text
abbrev pub IsOfMessage : List ℕ → List ℕ → Option Kept → Type 0
IsOfMessage sender message None = ⊤
IsOfMessage sender message (Some k) = (k.from ≡ sender) × (k.message ≡ message)

-- of the id these outcomes are kept, if there are any
abbrev pub kept_with : List ℕ → List ℕ → List ℕ → List Outcome → Keeping → Keeping
kept_with id sender message [] kept = kept
kept_with id sender message (outcome ∷ outcomes) kept =
    λ other. if bytes_eq id other then Some (record { from = sender; message = message; outcomes = outcome ∷ outcomes }) else kept other

-- the outcome is kept behind those of the id
abbrev pub kept_also : List ℕ → List ℕ → List ℕ → Outcome → Keeping → Keeping
kept_also id sender message outcome kept = kept_with id sender message (outcomes_kept (kept id) ++ outcome ∷ []) kept

-- What comes of the first line that has an outcome and has none kept, of a message under an id, on
-- a desk of which this is kept: this outcome, and this desk.
pub record IsNextOutcome (id sender message : List ℕ) (kept : Keeping) (d : Desk) (outcome : Outcome) (new : Desk) : Type 0 where
  pub is_id : IsId id
  pub same : IsOfMessage sender message (kept id)
  pub goes_on : end_of (told (lines_of message) (outcomes_kept (kept id))) ≡ ends.All
  pub line : List ℕ
  pub is_next : slice_get (lines_told (lines_of message)) (length (outcomes_kept (kept id))) ≡ Some line
  pub takes :
      takes sender (machine d (told (lines_of message) (outcomes_kept (kept id)))) line (reading line)
      ≡ machine new (told (lines_of message) (outcomes_kept (kept id)) ++ (line, outcome) ∷ [])

-- ---- a message that goes on

-- in these lines the machine comes from these outcomes to those, to this end and this desk
pub record GoesOn (sender : List ℕ) (lines : List (List ℕ)) (old : Desk) (before outcomes : List Entry) (end : End) (new : Desk) : Type 0
  where
    pub after : after_lines sender (machine old before) lines ≡ machine new outcomes
    pub end_is : end_of outcomes ≡ end

-- What the lines of a message come to of which these first outcomes are kept: it goes on at the
-- first line that has an outcome and has none kept; where the kept ones end the message, no line is
-- taken.
-- With a fault at line k, the lines before k are taken, to which the kept outcomes belong, and line
-- k and the later ones are not.
abbrev pub IsResumed : List ℕ → List (List ℕ) → List Outcome → Desk → List Entry → End → Desk → Type 0
IsResumed sender lines kept old outcomes (ends.Store fault k) new =
    (0 < k) × (k ≤ length lines) × (length kept ≤ length (lines_told (take (k - 1) lines)))
    × GoesOn sender (drop (length kept) (lines_told (take (k - 1) lines))) old (told lines kept) outcomes ends.All new
IsResumed sender lines kept old outcomes end new =
    GoesOn sender (drop (length kept) (lines_told lines)) old (told lines kept) outcomes end new
