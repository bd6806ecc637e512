-- The nodes of a branch that stand next to each other, as one goes along it.
use Rattle.std.proofs.Common.{◌≡◌, ℕ, ◌+◌, ◌-◌, ◌<◌, ◌≤◌, zero, suc, Bool, true, false, not, ◌||◌, ◌&&◌, List, [], ◌∷◌, length}
use Rattle.std.proofs.Common.{take, get_or, sym, refl, ap, ◌∙◌, ⊎_elim, arith}
use Rattle.std.proofs.lemmas.Bool.{cases_Bool, false≢true}
use Rattle.std.specs.BTreeSet.{BTreeSet}
use Rattle.std.specs.HashMap.{HashMap}
use Rattle.version_nodes.specs.Nodes.{Node, same_node}
use Rattle.version_nodes.proofs.NodeLemmas.{same_true, same_itself}
use Rattle.version_marks.specs.Children.{is_child, is_pair}

or_swap : (a b c : Bool) → (a || (b || c)) ≡ (b || (a || c))
or_swap true true c = refl
or_swap true false c = refl
or_swap false b c = refl

pub both_true : (a b : Bool) → (a && b) ≡ true → (a ≡ true) × (b ≡ true)
both_true true b h = (refl, h)
both_true false b h = absurd (false≢true h)

-- one more pair in front
pairs_more : (nodes : List Node) (k : ℕ) (n m c p : Node) → suc k < length nodes → n ≡ get_or nodes k n → m ≡ get_or nodes (suc k) m
    → is_pair (take (suc (suc k)) nodes) c p ≡ ((same_node c n && same_node p m) || is_pair (take (suc k) nodes) c p)
pairs_more [] k n m c p l e f = absurd (omega (arith, l))
pairs_more (x ∷ []) k n m c p l e f = absurd (omega (arith, l))
pairs_more (x ∷ y ∷ nodes) zero n m c p l e f =
    λ i. (same_node c (sym e i) && same_node p (sym f i)) || false
pairs_more (x ∷ y ∷ nodes) (suc k) n m c p l e f =
    ap (λ b. (same_node c x && same_node p y) || b) (pairs_more (y ∷ nodes) k n m c p (omega (arith, l)) e f)
    ∙ or_swap (same_node c x && same_node p y) (same_node c n && same_node p m) (is_pair (take (suc k) (y ∷ nodes)) c p)

-- a pair of a front is one of the whole
pair_of_front : (nodes : List Node) (k : ℕ) (c p : Node) → is_pair (take k nodes) c p ≡ true → is_pair nodes c p ≡ true
pair_of_front nodes zero c p h = absurd (false≢true h)
pair_of_front [] (suc k) c p h = absurd (false≢true h)
pair_of_front (x ∷ []) (suc k) c p h = absurd (false≢true (none k h))
  where
    none : (k : ℕ) → is_pair (take (suc k) (x ∷ [])) c p ≡ true → false ≡ true
    none zero h = h
    none (suc k) h = h
pair_of_front (x ∷ y ∷ nodes) (suc zero) c p h = absurd (false≢true h)
pair_of_front (x ∷ y ∷ nodes) (suc (suc k)) c p h =
    or_more (same_node c x && same_node p y) h (pair_of_front (y ∷ nodes) (suc k) c p)
  where
    or_more : (a : Bool) → (a || is_pair (take (suc k) (y ∷ nodes)) c p) ≡ true
        → (is_pair (take (suc k) (y ∷ nodes)) c p ≡ true → is_pair (y ∷ nodes) c p ≡ true) → (a || is_pair (y ∷ nodes) c p) ≡ true
    or_more true h f = refl
    or_more false h f = f h

module _ (nodes : List Node) (place : ℕ) (n m : Node) (some : 1 ≤ place) (l : place < length nodes) (e : n ≡ get_or nodes (place - 1) n)
    (f : m ≡ get_or nodes place m) where
  pub pairs_to : (c p : Node) → is_pair (take (place + 1) nodes) c p ≡ ((same_node c n && same_node p m) || is_pair (take place nodes) c p)
  pairs_to c p =
      let k = place - 1 in
      let one : place ≡ suc k = omega (arith, some) in
      let two : place + 1 ≡ suc (suc k) = omega (arith, some) in
      ap (λ j. is_pair (take j nodes) c p) two
      ∙ pairs_more nodes k n m c p (omega (arith, some, l)) e (f ∙ ap (λ j. get_or nodes j m) one)
      ∙ sym (ap (λ j. (same_node c n && same_node p m) || is_pair (take j nodes) c p) one)

  is_pair_here : is_pair nodes n m ≡ true
  is_pair_here =
      pair_of_front nodes (place + 1) n m
      (pairs_to n m ∙ ap (λ b. (b && same_node m m) || is_pair (take place nodes) n m) (same_itself n)
      ∙ ap (λ b. b || is_pair (take place nodes) n m) (same_itself m))

  module _ {S : Type 0} (was old new : HashMap Node (BTreeSet Node) S) where
    -- the pair is added
    module _ (made : (p c : Node) → is_child new p c ≡ ((same_node c n && same_node p m) || is_child old p c)) where
      pub others_after : ((p c : Node) → is_pair nodes c p ≡ false → is_child old p c ≡ is_child was p c)
          → (p c : Node) → is_pair nodes c p ≡ false → is_child new p c ≡ is_child was p c
      others_after before p c off =
          made p c
          ∙ ap (λ b. b || is_child old p c) (apart p c off)
          ∙ before p c off
        where
          apart : (p c : Node) → is_pair nodes c p ≡ false → (same_node c n && same_node p m) ≡ false
          apart p c off =
              ⊎_elim
              (λ yes.
              let two = both_true (same_node c n) (same_node p m) yes in
              absurd (false≢true (sym off ∙ ap (λ z. is_pair nodes z p) (same_true c n two.0) ∙ ap (is_pair nodes n) (same_true p m two.1)
              ∙ is_pair_here)))
              (λ no. no)
              (cases_Bool (same_node c n && same_node p m))

      pub kept_after : ((p c : Node) → is_child was p c ≡ true → is_child old p c ≡ true)
          → (p c : Node) → is_child was p c ≡ true → is_child new p c ≡ true
      kept_after before p c h =
          made p c ∙ ap (λ b. (same_node c n && same_node p m) || b) (before p c h) ∙ last (same_node c n && same_node p m)
        where
          last : (a : Bool) → (a || true) ≡ true
          last true = refl
          last false = refl

      pub added_after : ((p c : Node) → is_pair (take place nodes) c p ≡ true → is_child old p c ≡ true)
          → (p c : Node) → is_pair (take (place + 1) nodes) c p ≡ true → is_child new p c ≡ true
      added_after before p c h =
          made p c ∙ more (same_node c n && same_node p m) (sym (pairs_to c p) ∙ h) (before p c)
        where
          more : (a : Bool) → (a || is_pair (take place nodes) c p) ≡ true → (is_pair (take place nodes) c p ≡ true → is_child old p c ≡ true)
              → (a || is_child old p c) ≡ true
          more true h f = refl
          more false h f = f h

    -- the pair is taken out, unless it is a link
    pub settled_after : (is : Node → Node → Bool)
        → ((p c : Node) → is_child new p c ≡ ((not (same_node c n && same_node p m) || is c p) && is_child old p c))
        → ((p c : Node) → is_child old p c ≡ ((not (is_pair (take place nodes) c p) || is c p) && is_child was p c))
        → (p c : Node) → is_child new p c ≡ ((not (is_pair (take (place + 1) nodes) c p) || is c p) && is_child was p c)
    settled_after is made before p c =
        made p c ∙ ap (λ b. (not (same_node c n && same_node p m) || is c p) && b) (before p c)
        ∙ both (same_node c n && same_node p m) (is_pair (take place nodes) c p) (is c p) (is_child was p c)
        ∙ sym (ap (λ b. (not b || is c p) && is_child was p c) (pairs_to c p))
      where
        both : (a b h w : Bool) → ((not a || h) && ((not b || h) && w)) ≡ ((not (a || b) || h) && w)
        both true b true w = none b
          where
            none : (b : Bool) → ((not b || true) && w) ≡ w
            none true = refl
            none false = refl
        both true b false w = refl
        both false b h w = refl
