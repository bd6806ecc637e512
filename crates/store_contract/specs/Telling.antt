-- How a command is handed to the plan, which knows numbers alone: a name that is not known is told
-- as 1,000,000,000 + k, which no bug of a sound desk has, and its refusal is told by name again.
-- This project's own rule.
use Rattle.std.specs.Prelude.{ℕ, ◌+◌, ◌-◌, nat_lt, List, Result, Ok, Err, unwrap_or, if◌then◌else◌}
use Rattle.bug_record.specs.Clones.{name_refusal}
use Rattle.bug_record.specs.Commands.{command_over}
use Rattle.bug_record.specs.Desk.{Desk}
use Rattle.bug_record.specs.Heads.{open_head}
use Rattle.bug_record.specs.Steps.{step_by}
use Rattle.bug_record.specs.Words.{Names, number_of_name}
use Rattle.bug_record.specs.declared.command.Command.{Command}
use Rattle.bug_record.specs.declared.command.Refusal.{Refusal}
use Rattle.bug_record.specs.declared.command.Refusal.TheVariants.{NoName, NoBug}
use Rattle.base_words.specs.declared.named.Named.{Named}
use Rattle.base_words.specs.declared.named.TheConstants.{AFTER_LARGEST}
use Rattle.base_words.specs.declared.named.Named.TheVariants.{Number, Name}

-- the number that a bug word is told as
abbrev pub number_told : Names → Named → ℕ
number_told names (Number n) = n
number_told names (Name k) = unwrap_or (number_of_name names k) (AFTER_LARGEST + k)

abbrev pub command_told : Names → Command Named → Command ℕ
command_told names command = command_over (number_told names) command

-- the refusal that is meant
abbrev pub refusal_meant : Refusal → Refusal
refusal_meant (NoBug n) = if nat_lt AFTER_LARGEST n then NoName (n - AFTER_LARGEST) else NoBug n
refusal_meant refusal = refusal

-- what is meant by what the step of a command that was told comes to
abbrev pub result_meant : Result Desk Refusal → Result Desk Refusal
result_meant (Ok new) = Ok new
result_meant (Err refusal) = Err (refusal_meant refusal)

-- the step of a command over numbers, where these names are known
abbrev pub step_among : Names → Desk → List ℕ → Command ℕ → Result Desk Refusal
step_among names d sender command = step_by (λ n. Ok n) (name_refusal names) (open_head d.tree) d sender command
