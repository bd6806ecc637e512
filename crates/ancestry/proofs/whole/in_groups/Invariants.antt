use Rattle.std.proofs.Common.{◌≡◌, ◌++◌, flat_map, vec_items}
use Rattle.std.specs.Vec.Iter.{into_iter_items}
use Rattle.ancestry.proofs.whole.in_groups.Given as goal

-- the groups so far, the one that grows, and the links that are left are the links
abbrev pub invariant-loop-link : goal.invariant-loop-link
invariant-loop-link l =
    flat_map vec_items l.groups.items ++ (l.group.items ++ into_iter_items l.link-iterator) ≡ l.fn.links.items
