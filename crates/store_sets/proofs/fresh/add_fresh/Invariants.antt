use Rattle.std.proofs.Common.{◌≡◌, ◌++◌, drop}
use Rattle.std.specs.Prelude.{filter}
use Rattle.bug_record.specs.Images.{numbers_of}
use Rattle.store_sets.specs.PlacesOfImages.{is_fresh, HavePlaces}
use Rattle.store_sets.proofs.fresh.add_fresh.Given as goal

abbrev pub invariant-loop-member : goal.invariant-loop-member
invariant-loop-member l = record {
  known : HavePlaces l.bugs (numbers_of l.left);
  numbers : l.fresh.items ++ filter (is_fresh l.bugs) (numbers_of (drop l.member-index l.members))
      ≡ l.fn.fresh.items ++ filter (is_fresh l.bugs) (numbers_of l.members);
}
