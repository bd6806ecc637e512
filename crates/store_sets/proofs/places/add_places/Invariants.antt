use Rattle.std.proofs.Common.{◌≡◌, ℕ, cond, drop, Some}
use Rattle.std.specs.Prelude.{nat_eq}
use Rattle.std.specs.HashMap.{get}
use Rattle.bug_record.specs.Sets.{has}
use Rattle.store_sets.specs.declared.places.Place.TheVariants.{After}
use Rattle.store_sets.proofs.places.add_places.Given as goal

abbrev pub invariant-loop-number : goal.invariant-loop-number
invariant-loop-number l =
    (n : ℕ)
    → cond (has (drop l.number-index l.numbers) n) (Some (After n)) (get nat_eq l.bugs n) ≡ cond (has l.numbers n)
    (Some (After n)) (get nat_eq l.fn.bugs n)
