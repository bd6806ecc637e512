-- Ascending members, merged in one pass.
use Rattle.std.proofs.Common.{◌≡◌, ◌<◌, ℕ, true, false, cond, List, [], ◌∷◌, ◌++◌, Option, Some, None, sym, refl, ap, ◌∙◌, append_assoc}
use Rattle.std.specs.Prelude.{◌==◌, nat_lt, MatchOption, is_some}
use Rattle.std.proofs.lemmas.Bool.{false≢true, and_parts, ltb-true, lt-ltb}
use Rattle.bug_record.specs.Sets.{AllAbove, IsAscending, with_item, with_items}
use Rattle.bug_record.specs.Images.{numbers_of}
use Rattle.bug_record.specs.declared.bug.Member.{Member}
use Rattle.bug_record.specs.declared.bug.SetImage.{SetImage}
use Rattle.base_sequences.proofs.SetLemmas.{AllAbove-below}
use Rattle.bug_images.specs.Kept.{ascends}
use Rattle.bug_core.specs.Joins.{number_of, with_members}
use Rattle.bug_core.specs.Merged.{front_below, rest_from, unless_first}

-- numbers that ascend by the test ascend
all-above : (k : ℕ) (ns : List ℕ) → ascends (Some k) ns ≡ true → AllAbove k ns × IsAscending ns
all-above k [] h = (tt, tt)
all-above k (n ∷ ns) h =
    let p = and_parts (nat_lt k n) (ascends (Some n) ns) h in
    let r = all-above n ns p.1 in
    let l : k < n = ltb-true k n p.0 in
    ((l, AllAbove-below ns k n l r.0), r)

pub ascending-from : (ns : List ℕ) → ascends None ns ≡ true → IsAscending ns
ascending-from [] h = tt
ascending-from (n ∷ ns) h = all-above n ns h

-- a member below all that are added stays the first
first-stays : (xs ms : List Member) (x : Member) → AllAbove x.number (numbers_of xs)
    → with_items number_of (x ∷ ms) xs ≡ x ∷ with_items number_of ms xs
first-stays [] ms x h = refl
first-stays (z ∷ zs) ms x h =
    ap (λ t. with_items number_of (cond t (x ∷ with_item number_of ms z) (cond (x.number == z.number) (x ∷ ms) (z ∷ x ∷ ms))) zs)
    (lt-ltb x.number z.number h.0)
    ∙ first-stays zs (with_item number_of ms z) x h.1

-- ascending members, added to none
pub items-own : (xs : List Member) → IsAscending (numbers_of xs) → with_items number_of [] xs ≡ xs
items-own [] h = refl
items-own (x ∷ xs) h = first-stays xs [] x h.0 ∙ ap (λ ms. x ∷ ms) (items-own xs h.1)

-- a member is added, and those after it
pub merge-step : (ms xs : List Member) (x : Member) → AllAbove x.number (numbers_of xs)
    → with_items number_of ms (x ∷ xs)
    ≡ front_below x.number ms ++ unless_first (rest_from x.number ms) x ++ with_items number_of (rest_from x.number ms) xs
merge-step [] xs x h = first-stays xs [] x h
merge-step (y ∷ ys) xs x h =
    elim (nat_lt y.number x.number) as (λ t. nat_lt y.number x.number ≡ t
    → with_items number_of (cond t (y ∷ with_item number_of ys x) (cond (y.number == x.number) (y ∷ ys) (x ∷ y ∷ ys))) xs
    ≡ cond t (y ∷ front_below x.number ys) []
    ++ unless_first (cond t (rest_from x.number ys) (y ∷ ys)) x
    ++ with_items number_of (cond t (rest_from x.number ys) (y ∷ ys)) xs) [
      | true ↦ λ e.
          first-stays xs (with_item number_of ys x) y (AllAbove-below (numbers_of xs) y.number x.number (ltb-true y.number x.number e) h)
          ∙ ap (λ zs. y ∷ zs) (merge-step ys xs x h)
      | false ↦ λ _. elim (y.number == x.number) as (λ t. with_items number_of (cond t (y ∷ ys) (x ∷ y ∷ ys)) xs
          ≡ cond t [] (x ∷ []) ++ with_items number_of (y ∷ ys) xs) [ true ↦ refl | false ↦ first-stays xs (y ∷ ys) x h ]
    ] refl

-- the same where what is merged so far is known
pub merge-on : (whole so_far ms left xs : List Member) (x : Member) (more rest most : List Member) → left ≡ x ∷ xs
    → AllAbove x.number (numbers_of xs) → so_far ++ with_items number_of ms left ≡ whole
    → more ≡ so_far ++ front_below x.number ms → rest ≡ rest_from x.number ms → most ≡ more ++ unless_first rest x
    → most ++ with_items number_of rest xs ≡ whole
merge-on whole so_far ms left xs x more rest most split h so e r w =
    (λ j. (w ∙ (λ k. e k ++ unless_first (r k) x)) j ++ with_items number_of (r j) xs)
    ∙ (simp append_assoc)
    ∙ ap (λ zs. so_far ++ zs) (sym (merge-step ms xs x h))
    ∙ ap (λ zs. so_far ++ with_items number_of ms zs) (sym split)
    ∙ so

-- the members of one set that ascend, and of two
pub one-meant : (js : List SetImage) (j : SetImage) → js ≡ j ∷ [] → ascends None (numbers_of j.members) ≡ true
    → j.members ≡ with_members [] js
one-meant js j e h = sym (ap (with_members []) e ∙ items-own j.members (ascending-from (numbers_of j.members) h))

pub two-meant : (js : List SetImage) (j k : SetImage) → js ≡ j ∷ k ∷ [] → ascends None (numbers_of j.members) ≡ true
    → with_items number_of j.members k.members ≡ with_members [] js
two-meant js j k e h = sym (ap (with_members []) e
    ∙ ap (λ ms. with_items number_of ms k.members) (items-own j.members (ascending-from (numbers_of j.members) h)))

-- what is known where there is none
pub none-known : {A : Type 0} (o : Option A) (P : Type 0) (Q : A → Type 0) → MatchOption o P Q → is_some o ≡ false → P
none-known None P Q h e = h
none-known (Some a) P Q h e = absurd (false≢true (sym e))
