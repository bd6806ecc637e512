use Rattle.std.proofs.Common.{◌≡◌, take}
use Rattle.store_contract.proofs.kept.copy_outcomes.Given as goal

abbrev pub invariant-loop-outcome : goal.invariant-loop-outcome
invariant-loop-outcome l = l.copies ≡ take l.outcome-index l.outcome-items
