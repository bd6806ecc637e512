-- The first node of a line with a slot, and the nodes that are looked for there.
use Rattle.std.proofs.Common.{◌≡◌, ◌≤◌, ◌<◌, ◌-◌, ◌+◌, ℕ, suc, true, false, Bool, cond, List, [], ◌∷◌, length, get_or, refl, sym, ap, subst, ◌∙◌, arith}
use Rattle.std.specs.Prelude.{◌==◌}
use Rattle.std.proofs.Math.ListN.{replicate, set}
use Rattle.std.proofs.lemmas.Bool.{eqb-true, eqb-false, false≢true}
use Rattle.std.proofs.lemmas.Grind.{get_or-set_at}
use Rattle.std.proofs.lemmas.List.{get_or_read, get_or-replicate, get_or-set_other, length-replicate, length-set}
use Rattle.ancestry.specs.Heights.{height}
use Rattle.ancestry.specs.Slots.{slot_height, slot_of, HasSlots}
use Rattle.ancestry.specs.declared.indexed.TheConstants.{SLOTS}
use Rattle.version_nodes.specs.Nodes.{Node, same_node}
use Rattle.version_nodes.proofs.NodeLemmas.{same_true}

-- no slot has more than the line
pub slot-le : (line : List Node) (s : ℕ) → slot_height line s ≤ length line
slot-le [] s = omega arith
slot-le (m ∷ line) s = cases (slot-le line s) (slot_of m.version == s)
  where
    cases : slot_height line s ≤ length line → (t : Bool)
        → cond t (length line + 1) (slot_height line s) ≤ length (m ∷ line)
    cases less true = omega arith
    cases less false = omega arith

-- a node has the slot of each node that is equal to it
same-slot : (m n : Node) → same_node m n ≡ true → slot_of m.version ≡ slot_of n.version
same-slot m n is = ap (λ (q : Node). slot_of q.version) (same_true m n is)

-- a line that leaves a node's slot free doesn't have the node
pub free-slot : (line : List Node) (n : Node) → slot_height line (slot_of n.version) ≡ 0 → height line n ≡ 0
free-slot [] n free = refl
free-slot (m ∷ line) n free =
    cases (free-slot line n) (slot_of m.version == slot_of n.version) (same_node m n) refl free (same-slot m n)
  where
    cases : (slot_height line (slot_of n.version) ≡ 0 → height line n ≡ 0) → (t u : Bool)
        → (slot_of m.version == slot_of n.version) ≡ t
        → cond t (length line + 1) (slot_height line (slot_of n.version)) ≡ 0
        → (u ≡ true → slot_of m.version ≡ slot_of n.version)
        → cond u (length line + 1) (height line n) ≡ 0
    cases rest true u e free same = absurd (omega (arith, free))
    cases rest false true e free same = absurd (eqb-false (slot_of m.version) (slot_of n.version) e (same refl))
    cases rest false false e free same = rest free

-- where the first node with a node's slot is that node, the slot has its height
pub first-in-slot : (line : List Node) (m n : Node) (h : ℕ)
    → slot_height line (slot_of n.version) ≡ h → 0 < h → same_node (get_or line (length line - h) m) n ≡ true
    → height line n ≡ h
first-in-slot [] m n h e more is = absurd (omega (arith, e))
first-in-slot (k ∷ line) m n h e more is =
    cases (first-in-slot line m n h) (slot-le line (slot_of n.version)) (slot_of k.version == slot_of n.version) (same_node k n)
    refl refl e (same-slot k n)
  where
    at : (i : ℕ) → length (k ∷ line) - h ≡ i → same_node (get_or (k ∷ line) i m) n ≡ true
    at i e = subst (λ j. same_node (get_or (k ∷ line) j m) n ≡ true) e is

    cases : (slot_height line (slot_of n.version) ≡ h → 0 < h → same_node (get_or line (length line - h) m) n ≡ true → height line n ≡ h)
        → slot_height line (slot_of n.version) ≤ length line → (t u : Bool)
        → (slot_of k.version == slot_of n.version) ≡ t → same_node k n ≡ u
        → cond t (length line + 1) (slot_height line (slot_of n.version)) ≡ h
        → (u ≡ true → slot_of k.version ≡ slot_of n.version)
        → cond u (length line + 1) (height line n) ≡ h
    cases rest low true true e f g same = g
    cases rest low true false e f g same = absurd (false≢true (sym f ∙ at 0 (omega (arith, g))))
    cases rest low false true e f g same = absurd (eqb-false (slot_of k.version) (slot_of n.version) e (same refl))
    cases rest low false false e f g same = rest g more (at (suc (length line - h)) (omega (arith, g, low)))

-- what is read at a node's slot
pub slot-read : (slots : List ℕ) (line : List Node) (n : Node) (v : List ℕ) (i h : ℕ) → HasSlots slots line
    → v ≡ n.version → i ≡ slot_of v → i < SLOTS → h ≡ get_or slots i h → slot_height line (slot_of n.version) ≡ h
slot-read slots line n v i h has same at inside read =
    let within : i < length slots = subst (λ k. i < k) (sym has.all) inside in
    let is : i ≡ slot_of n.version = at ∙ ap slot_of same in
    sym (get_or_read slots i h within read 0 ∙ has.heights i within ∙ ap (slot_height line) is)

-- slots with no height are those of an empty line
pub no-slots : (slots : List ℕ) (n : ℕ) → slots ≡ replicate n 0 → n ≡ SLOTS → HasSlots slots []
no-slots slots n is all = record {
  all = ap length is ∙ length-replicate n 0 ∙ all;
  heights = λ s b. ap (λ (l : List ℕ). get_or l s 0) is
      ∙ get_or-replicate n s 0 0 (subst (λ k. s < k) (ap length is ∙ length-replicate n 0) b);
}

-- a node before a line sets its slot
pub set-slot : (slots : List ℕ) (line : List Node) (m : Node) (i h : ℕ) → HasSlots slots line
    → i ≡ slot_of m.version → h ≡ length line + 1 → HasSlots (set slots i h) (m ∷ line)
set-slot slots line m i h has at high = record {
  all = length-set slots i h ∙ has.all;
  heights = λ s b. here s (subst (λ k. s < k) (length-set slots i h) b) (slot_of m.version == s) refl;
}
  where
    here : (s : ℕ) → s < length slots → (t : Bool) → (slot_of m.version == s) ≡ t
        → get_or (set slots i h) s 0 ≡ cond t (length line + 1) (slot_height line s)
    here s b true e =
        let same : s ≡ i = sym (at ∙ eqb-true (slot_of m.version) s e) in
        get_or-set_at slots i s h 0 same (subst (λ k. k < length slots) same b) ∙ high
    here s b false e =
        get_or-set_other slots i s h 0 (λ same. eqb-false (slot_of m.version) s e (sym (same ∙ at))) ∙ has.heights s b
