use Rattle.std.proofs.Common.{◌≡◌, ◌||◌, ◌&&◌, ℕ, drop}
use Rattle.std.specs.Prelude.{is_some}
use Rattle.bug_record.specs.Sets.{has, IsAscending}
use Rattle.bug_record.specs.Images.{bug_in}
use Rattle.bug_images.specs.Changes.{differs, IsRight}
use Rattle.bug_images.proofs.changes.add_images.Given as goal

abbrev pub invariant-loop-image : goal.invariant-loop-image
invariant-loop-image l = record {
  right : IsRight l.before l.after l.last;
  ascending : IsAscending l.fn.set.keys → IsAscending l.set.keys;
  numbers : (n : ℕ) → (has l.set.keys n || (is_some (bug_in (drop l.image-index l.images) n) && differs l.before l.after n))
      ≡ (has l.fn.set.keys n || (is_some (bug_in l.images n) && differs l.before l.after n));
}
