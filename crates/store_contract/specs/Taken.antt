-- A plan, which knows no names and is made as if each could be given, and the refusal of the names
-- that its command gives.
-- This project's own rule.
use Rattle.std.specs.Prelude.{Bool, true, false, Option, None, Some, Result, Ok, Err, if◌then◌else◌}
use Rattle.bug_record.specs.declared.command.Change.{Change}
use Rattle.bug_record.specs.declared.command.PlanFault.{PlanFault}
use Rattle.bug_record.specs.declared.command.PlanFault.TheVariants.{Refused, Memory}
use Rattle.bug_record.specs.declared.command.Refusal.{Refusal}
use Rattle.bug_record.specs.declared.command.Refusal.TheVariants.{Full}

abbrev pub is_full : Refusal → Bool
is_full Full = true
is_full refusal = false

-- the refusal of the names comes before a change, and before `Full` alone
abbrev pub with_names : Option Refusal → Result Change PlanFault → Result Change PlanFault
with_names None planned = planned
with_names (Some taken) (Ok change) = Err (Refused taken)
with_names (Some taken) (Err (Refused refusal)) = if is_full refusal then Err (Refused taken) else Err (Refused refusal)
with_names (Some taken) (Err Memory) = Err Memory
