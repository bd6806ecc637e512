use Rattle.std.proofs.Common.{◌≡◌, ℕ, true, cond, drop, Some}
use Rattle.std.specs.Prelude.{nat_eq}
use Rattle.std.specs.HashMap.{get}
use Rattle.bug_record.specs.Sets.{has}
use Rattle.bug_record.specs.Images.{numbers_of}
use Rattle.store_sets.specs.PlacesOfImages.{is_there}
use Rattle.store_sets.specs.declared.places.Place.TheVariants.{After}
use Rattle.store_sets.proofs.places.put_after.Given as goal

abbrev pub invariant-loop-member : goal.invariant-loop-member
invariant-loop-member l = record {
  written : (n : ℕ) → cond (has (numbers_of (drop l.member-index l.members)) n) (Some (After l.key)) (get nat_eq l.bugs n)
      ≡ cond (has (numbers_of l.members) n) (Some (After l.key)) (get nat_eq l.fn.bugs n);
  there : (n : ℕ) → is_there l.fn.bugs n ≡ true → is_there l.bugs n ≡ true;
}
