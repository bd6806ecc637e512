use Rattle.std.proofs.Common.{◌≡◌, drop}
use Rattle.std.specs.List.{list_any}
use Rattle.std.specs.Ordering.{nat_cmp}
use Rattle.std.specs.BTreeMap.{is_at}
use Rattle.bug_core.proofs.images.has_some.Given as goal

abbrev pub invariant-loop-member : goal.invariant-loop-member
invariant-loop-member l =
    list_any (λ m. list_any (is_at (nat_cmp m.number)) l.numbers.keys) (drop l.member-index l.members)
    ≡ list_any (λ m. list_any (is_at (nat_cmp m.number)) l.numbers.keys) l.members
