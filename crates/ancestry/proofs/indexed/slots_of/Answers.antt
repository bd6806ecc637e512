use Rattle.std.proofs.Common.{◌≡◌, ◌<◌, ◌-◌, ◌+◌, ◌∷◌, length, drop, refl, sym, ap, subst, ◌∙◌, arith}
use Rattle.std.proofs.lemmas.List.{drop_all, drop_more, length-drop}
use Rattle.ancestry.specs.Slots.{HasSlots, slot_of}
use Rattle.ancestry.specs.declared.indexed.TheConstants.{SLOTS}
use Rattle.version_nodes.specs.Nodes.{Node}
use Rattle.ancestry.proofs.SlotLemmas.{no-slots, set-slot}
use Rattle.ancestry.proofs.indexed.slots_of.Goals as goal

pub loop-place-init : goal.loop-place-init
loop-place-init c =
    let line = c.args.line.now in
    let slots = c.in_ok-slots.slots.items in (
      omega arith,
      subst (HasSlots slots) (sym (drop_all (length line) line (omega arith)))
          (no-slots slots SLOTS (c.in_ok-slots.ensures.items_if_clones_equal (λ y same. same)) refl),
    )

pub loop-place-preserved : goal.loop-place-preserved
loop-place-preserved c =
    let line = c.args.line.now in
    let p = c.loop-place.place in
    let m = c.index-line-place.result in
    let inside : p - 1 < length line = omega arith in
    let next : p - 1 + 1 ≡ p = omega arith in
    let left : length line - (p - 1) ≡ length (drop p line) + 1 = omega (arith, length-drop p line) in
    let more : drop (p - 1) line ≡ m ∷ drop p line = drop_more line (p - 1) m inside
    ∙ ap (λ (q : Node). q ∷ drop (p - 1 + 1) line) (sym c.index-line-place.is)
    ∙ ap (λ k. m ∷ drop k line) next in (
      omega arith,
      subst (HasSlots _) (sym more)
          (set-slot c.loop-place.slots.items (drop p line) m c.slot_of.result _ c.loop-place.invariant.1
          (c.slot_of.ensures.value ∙ ap slot_of c.version.ensures.value) left),
    )

pub returns : goal.returns
returns c =
    let none : c.loop-place.place ≡ 0 = omega arith in
    subst (λ k. HasSlots c.loop-place.slots.items (drop k c.args.line.now)) none c.loop-place.invariant.1
