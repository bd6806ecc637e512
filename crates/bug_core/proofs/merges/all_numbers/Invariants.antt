use Rattle.std.proofs.Common.{◌≡◌, take, ◌∷◌}
use Rattle.bug_core.proofs.merges.all_numbers.Given as goal

abbrev pub invariant-loop-number : goal.invariant-loop-number
invariant-loop-number l = l.numbers ≡ l.first ∷ take l.number-index l.others
