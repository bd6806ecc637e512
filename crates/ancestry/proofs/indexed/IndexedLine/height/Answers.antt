use Rattle.std.proofs.Common.{◌≡◌, ◌≤◌, ◌<◌, ◌-◌, List, length, get_or, sym, ap, ◌∙◌, arith}
use Rattle.std.proofs.lemmas.Bool.Decides.{nat_tests}
use Rattle.ancestry.specs.Heights.{height}
use Rattle.ancestry.specs.Slots.{slot_of}
use Rattle.version_nodes.specs.Nodes.{Node, same_node}
use Rattle.ancestry.proofs.SlotLemmas.{slot-read, slot-le, free-slot, first-in-slot}
use Rattle.ancestry.proofs.indexed.IndexedLine.height.Goals as goal

pub returns-then-height-eq0 : goal.returns-then-height-eq0
returns-then-height-eq0 c =
    let line = c.self.inside.nodes.items in
    let slots = c.self.inside.slots.items in
    let n = c.args.node.now in
    let h = c.index-height.result.now in
    let read = slot-read slots line n c.version.result.now c.slot_of.result h c.self.invariant.1
    c.version.ensures.value c.slot_of.ensures.value c.slot_of.ensures.within c.index-height.ensures in
    sym (ap (λ (l : List Node). height l n) (sym c.self.view_is)
    ∙ free-slot line n (read ∙ c.if-height-eq0.true))

pub overflow_sub-len : goal.overflow_sub-len
overflow_sub-len c =
    let line = c.self.inside.nodes.items in
    let slots = c.self.inside.slots.items in
    let n = c.args.node.now in
    let h = c.index-height.result.now in
    let read = slot-read slots line n c.version.result.now c.slot_of.result h c.self.invariant.1
    c.version.ensures.value c.slot_of.ensures.value c.slot_of.ensures.within c.index-height.ensures in
    let low : h ≤ length line = omega (arith, read, slot-le line (slot_of n.version)) in
    omega arith

pub index-first-requires : goal.index-first-requires
index-first-requires c =
    let line = c.self.inside.nodes.items in
    let slots = c.self.inside.slots.items in
    let n = c.args.node.now in
    let h = c.index-height.result.now in
    let read = slot-read slots line n c.version.result.now c.slot_of.result h c.self.invariant.1
    c.version.ensures.value c.slot_of.ensures.value c.slot_of.ensures.within c.index-height.ensures in
    let low : h ≤ length line = omega (arith, read, slot-le line (slot_of n.version)) in
    let more : 0 < h = grind (arith, nat_tests) in
    omega arith

pub returns-then-is_same : goal.returns-then-is_same
returns-then-is_same c =
    let line = c.self.inside.nodes.items in
    let slots = c.self.inside.slots.items in
    let n = c.args.node.now in
    let h = c.index-height.result.now in
    let m = c.index-first.result.now in
    let read = slot-read slots line n c.version.result.now c.slot_of.result h c.self.invariant.1
    c.version.ensures.value c.slot_of.ensures.value c.slot_of.ensures.within c.index-height.ensures in
    let more : 0 < h = grind (arith, nat_tests) in
    let all : c.len.result ≡ length line = omega arith in
    let here : get_or line (length line - h) m ≡ m = ap (λ i. get_or line (i - h) m) (sym all) ∙ sym c.index-first.ensures in
    sym (ap (λ (l : List Node). height l n) (sym c.self.view_is)
    ∙ first-in-slot line m n h read more
    (ap (λ (q : Node). same_node q n) here ∙ sym c.is_same.ensures ∙ c.if-is_same.true))
