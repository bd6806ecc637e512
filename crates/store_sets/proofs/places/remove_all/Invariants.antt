use Rattle.std.proofs.Common.{◌≡◌, ℕ, cond, drop, None}
use Rattle.std.specs.Prelude.{nat_eq}
use Rattle.std.specs.HashMap.{get}
use Rattle.bug_record.specs.Sets.{has}
use Rattle.store_sets.proofs.places.remove_all.Given as goal

abbrev pub invariant-loop-number : goal.invariant-loop-number
invariant-loop-number l =
    (n : ℕ)
    → cond (has (drop l.number-index l.numbers) n) None (get nat_eq l.bugs n) ≡ cond (has l.numbers n) None
    (get nat_eq l.fn.bugs n)
