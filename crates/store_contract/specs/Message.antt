-- A message, as a machine that takes its lines one at a time (stops: the BTS page 'control and
-- manipulation'; the rest is this project's own rule).
use Rattle.std.specs.Prelude.{ℕ, ◌≡◌, ◌-◌, ◌<◌, ◌≤◌, nat_le, Bool, true, false, List, [], ◌∷◌, ◌++◌, length}
use Rattle.std.specs.Prelude.{take, zip, count_by, Result, Ok, Err, if◌then◌else◌}
use Rattle.std.specs.List.{list_any}
use Rattle.bug_record.specs.Desk.{Desk}
use Rattle.bug_record.specs.Commands.{names_in}
use Rattle.bug_record.specs.Words.{Names}
use Rattle.bug_record.specs.Steps.{step}
use Rattle.bug_record.specs.Changed.{changed_numbers}
use Rattle.bug_record.specs.declared.command.Command.{Command}
use Rattle.bug_record.specs.declared.command.Refusal.{Refusal}
use Rattle.bug_record.specs.declared.command.Refusal.TheVariants.{Unknown, Malformed}
use Rattle.control_grammar.specs.Lines.{reading}
use Rattle.base_words.specs.declared.named.Named.{Named}
use Rattle.control_grammar.specs.declared.line.Line.{Line}
use Rattle.control_grammar.specs.declared.line.Line.TheVariants.{Blank, Comment, Stop, Do}
use Rattle.bug_record.specs.declared.outcome.Outcome.{Outcome}
use Rattle.bug_record.specs.declared.outcome.Outcome.TheVariants.{Changed, Refused, Stopped}
use Rattle.base_faults.specs.declared.store_fault.End.{End}
use Rattle.base_faults.specs.declared.store_fault.End.TheVariants as ends

-- a line as it was written, and what came of it
abbrev pub Entry : Type 0
Entry = List ℕ × Outcome

-- those of a command's names that are given where this is its outcome, each with its number: all of
-- an accepted one, whose changed numbers are those of the copies, in the order of the names
abbrev pub names_of : List ℕ → Outcome → Names
names_of ks (Changed numbers) = zip ks numbers
names_of ks outcome = []

-- the names that a line which reads so gives
abbrev pub names_with : Result Line Refusal → Outcome → Names
names_with (Ok (Do command)) outcome = names_of (names_in command) outcome
names_with read outcome = []

abbrev pub names_given : Entry → Names
names_given entry = names_with (reading entry.0) entry.1

-- the names known after these lines
abbrev pub known_names : List Entry → Names
known_names [] = []
known_names (entry ∷ entries) = names_given entry ++ known_names entries

-- the outcome of a command whose step is this, and the desk after it
abbrev pub outcome_of : Desk → Result Desk Refusal → Outcome × Desk
outcome_of d (Ok new) = (Changed (changed_numbers d new), new)
outcome_of d (Err refusal) = (Refused refusal, d)

unfoldable pub does : List ℕ → Names → Desk → Command Named → Outcome × Desk
does sender names d command = outcome_of d (step names d sender command)

-- the machine within a message: the desk, and the outcomes so far
pub record Machine : Type 0 where
  pub desk : Desk
  pub outcomes : List Entry

abbrev pub machine : Desk → List Entry → Machine
machine d outcomes = record { desk = d; outcomes = outcomes }

abbrev pub with_outcome : Machine → List ℕ → Outcome × Desk → Machine
with_outcome m line done = machine done.1 (m.outcomes ++ (line, done.0) ∷ [])

-- what the machine does with a line that reads so; blank lines and comments have no outcome
abbrev pub takes : List ℕ → Machine → List ℕ → Result Line Refusal → Machine
takes sender m line (Ok Blank) = m
takes sender m line (Ok Comment) = m
takes sender m line (Ok Stop) = with_outcome m line (Stopped, m.desk)
takes sender m line (Ok (Do command)) = with_outcome m line (does sender (known_names m.outcomes) m.desk command)
takes sender m line (Err refusal) = with_outcome m line (Refused refusal, m.desk)

-- lines that could not be read
abbrev pub is_unreadable : Outcome → Bool
is_unreadable (Refused Unknown) = true
is_unreadable (Refused Malformed) = true
is_unreadable outcome = false

abbrev pub unreadable_count : List Entry → ℕ
unreadable_count entries = count_by (λ entry. is_unreadable entry.1) entries

abbrev pub is_stop : Outcome → Bool
is_stop Stopped = true
is_stop outcome = false

-- How the outcomes so far end the message, which goes on at `All`: a stop ends it, and so does the
-- fifth line that could not be read.
unfoldable pub end_of : List Entry → End
end_of entries =
    if list_any (λ entry. is_stop entry.1) entries then ends.Stopped
    else if nat_le 5 (unreadable_count entries) then ends.TooManyUnreadable
    else ends.All

-- after its end the machine takes no line
abbrev pub takes_at : End → List ℕ → Machine → List ℕ → Machine
takes_at ends.All sender m line = takes sender m line (reading line)
takes_at ends.Stopped sender m line = m
takes_at ends.TooManyUnreadable sender m line = m
takes_at (ends.Store fault k) sender m line = m

-- the machine after these lines
abbrev pub after_lines : List ℕ → Machine → List (List ℕ) → Machine
after_lines sender m [] = m
after_lines sender m (line ∷ lines) = after_lines sender (takes_at (end_of m.outcomes) sender m line) lines

abbrev pub at_start : Desk → Machine
at_start d = machine d []

-- in these lines the machine comes to these outcomes, this end and this desk
pub record Comes (sender : List ℕ) (lines : List (List ℕ)) (old : Desk) (outcomes : List Entry) (end : End) (new : Desk) : Type 0
  where
    pub after : after_lines sender (at_start old) lines ≡ machine new outcomes
    pub end_is : end_of outcomes ≡ end

-- What a message comes to: its outcomes, its end, and the desk after it.
-- With a fault at line k, the lines before k were taken, and line k and the later ones were not.
abbrev pub IsReceived : List ℕ → List (List ℕ) → Desk → List Entry → End → Desk → Type 0
IsReceived sender lines old outcomes ends.All new = Comes sender lines old outcomes ends.All new
IsReceived sender lines old outcomes ends.Stopped new = Comes sender lines old outcomes ends.Stopped new
IsReceived sender lines old outcomes ends.TooManyUnreadable new = Comes sender lines old outcomes ends.TooManyUnreadable new
IsReceived sender lines old outcomes (ends.Store fault k) new =
    (0 < k) × (k ≤ length lines) × Comes sender (take (k - 1) lines) old outcomes ends.All new
