use Rattle.std.proofs.Common.{◌≡◌, drop}
use Rattle.bug_record.specs.Images.{numbers_of}
use Rattle.bug_record.specs.Sets.{with_items}
use Rattle.table_reads.proofs.waiting.add_members.Given as goal

abbrev pub invariant-loop-member : goal.invariant-loop-member
invariant-loop-member l =
    with_items (λ n. n) l.numbers.keys (numbers_of (drop l.member-index l.members)) ≡ with_items (λ n. n) l.fn.numbers.keys (numbers_of l.members)
