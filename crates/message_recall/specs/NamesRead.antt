-- The names that a line gives.
use Rattle.std.specs.Prelude.{ℕ, List, [], Option, Some, None, Result, Ok, Err}
use Rattle.bug_record.specs.Commands.{names_in}
use Rattle.bug_record.specs.declared.command.Refusal.{Refusal}
use Rattle.control_grammar.specs.declared.line.Line.{Line}
use Rattle.control_grammar.specs.declared.line.Line.TheVariants.{Blank, Comment, Stop, Do}
use Rattle.bug_record.specs.declared.outcome.Outcome.{Outcome}
use Rattle.bug_record.specs.declared.outcome.Outcome.TheVariants.{Changed}

-- the names that a line which reads so gives where its command is accepted; none where the line has
-- no outcome
abbrev pub names_read : Result Line Refusal → Option (List ℕ)
names_read (Ok Blank) = None
names_read (Ok Comment) = None
names_read (Ok Stop) = Some []
names_read (Ok (Do command)) = Some (names_in command)
names_read (Err refusal) = Some []

-- those of these names that are given where this is the outcome
abbrev pub names_accepted : List ℕ → Outcome → List ℕ
names_accepted ks (Changed numbers) = ks
names_accepted ks outcome = []
