use Rattle.std.proofs.Common.{◌≡◌, ◌||◌, ◌&&◌, ℕ, drop}
use Rattle.bug_record.specs.Sets.{has, IsAscending}
use Rattle.bug_record.specs.Images.{numbers_of}
use Rattle.bug_images.specs.Changes.{differs, IsRight}
use Rattle.bug_images.proofs.changes.add_members.Given as goal

abbrev pub invariant-loop-member : goal.invariant-loop-member
invariant-loop-member l = record {
  right : IsRight l.before l.after l.last;
  ascending : IsAscending l.fn.set.keys → IsAscending l.set.keys;
  numbers : (n : ℕ) → (has l.set.keys n || (has (numbers_of (drop l.member-index l.members)) n && differs l.before l.after n))
      ≡ (has l.fn.set.keys n || (has (numbers_of l.members) n && differs l.before l.after n));
}
