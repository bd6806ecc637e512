use Rattle.std.proofs.Common.{flat_map, vec_items, arith, ap}
use Rattle.std.proofs.lemmas.List.{nil_from_length}
use Rattle.std.specs.Vec.Iter.{into_iter_items}
use Rattle.ancestry.proofs.GroupLemmas.{source_put, last_put}
use Rattle.ancestry.proofs.whole.joined.Goals as goal

pub loop-next-preserved-then-are_of_two : goal.loop-next-preserved-then-are_of_two
loop-next-preserved-then-are_of_two c =
    source_put (flat_map vec_items c.args.groups.items) c.loop-next.links.items c.put_source.new.links.items
    c.loop-next.group.items c.in-Some.next.items (flat_map vec_items (into_iter_items c.next.new.self))
    (flat_map vec_items (into_iter_items c.loop-next.next-iterator)) c.in_ok-put_source.ensures
    (ap (flat_map vec_items) c.in-Some.ensures.steps.0) c.loop-next.invariant

pub returns : goal.returns
returns c =
    let left = into_iter_items c.loop-next.next-iterator in
    let none = nil_from_length left (omega (arith, c.in-None.ensures.steps)) in
    last_put (flat_map vec_items c.args.groups.items) c.loop-next.links.items c.put_source-2.new.links.items
    c.loop-next.group.items (flat_map vec_items left) c.in_ok-put_source-2.ensures (ap (flat_map vec_items) none)
    c.loop-next.invariant
