-- Shared fields of a set of merged bugs, as a command changes them (the BTS page 'control and
-- manipulation').
use Rattle.std.specs.Prelude.{ℕ, List, ⊤}
use Rattle.debver.specs.Names.{IsName}
use Rattle.bug_record.specs.declared.command.PlanFault.{PlanFault}
use Rattle.bug_record.specs.declared.command.PlanFault.TheVariants.{Refused, Memory}

-- The fault where a version's node is asked for: there was no memory, or the package is no package
-- name.
-- This project's own rule.
abbrev pub IsVersionFault : List ℕ → PlanFault → Type 0
IsVersionFault package_name Memory = ⊤
IsVersionFault package_name (Refused refusal) = ¬ (IsName package_name)
