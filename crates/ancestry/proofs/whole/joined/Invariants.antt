use Rattle.std.proofs.Common.{◌++◌, flat_map, vec_items}
use Rattle.std.specs.List.Sorted.{IsPermutation}
use Rattle.std.specs.Vec.Iter.{into_iter_items}
use Rattle.ancestry.proofs.whole.joined.Given as goal

-- the links so far, those of the source that grows, and those of the groups that are left are all
abbrev pub invariant-loop-next : goal.invariant-loop-next
invariant-loop-next l =
    IsPermutation (flat_map vec_items l.fn.groups.items)
    (l.links.items ++ l.group.items ++ flat_map vec_items (into_iter_items l.next-iterator))
