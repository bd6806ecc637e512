use Rattle.std.proofs.Common.{◌≡◌, drop}
use Rattle.bug_record.specs.Images.{numbers_of}
use Rattle.bug_record.specs.Sets.{with_items, number_set}
use Rattle.bug_images.proofs.images.member_numbers.Given as goal

abbrev pub invariant-loop-member : goal.invariant-loop-member
invariant-loop-member l =
    with_items (λ n. n) l.set.keys (numbers_of (drop l.member-index l.members)) ≡ number_set (numbers_of l.members)
