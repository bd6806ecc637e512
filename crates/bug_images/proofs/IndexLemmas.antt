-- The position of a bug is that of the bug that the images show.
use Rattle.std.proofs.Common.{◌≡◌, ◌+◌, ℕ, suc, true, false, cond, eqb, List, [], ◌∷◌, Option, Some, None, Bor, length, sym, refl, ap, ◌∙◌, subst}
use Rattle.std.proofs.Common.{arith}
use Rattle.std.specs.Prelude.{option_map, slice_get}
use Rattle.std.specs.Option.{option_or, option_and_then, option_copied}
use Rattle.std.specs.Slice.{IsItemAt}
use Rattle.std.proofs.lemmas.Option.{none-some, slice_get_read, slice_get_past}
use Rattle.bug_record.specs.Images.{member_at, bug_of, bug_in}
use Rattle.bug_record.specs.declared.bug.Member.{Member}
use Rattle.bug_record.specs.declared.bug.SetImage.{SetImage}
use Rattle.bug_images.specs.declared.index.Position.{Position}
use Rattle.bug_images.specs.Index.{position_among, position_in, bug_at}

-- the later part of a list
abbrev Follows : {T : Type 0} → List T → ℕ → List T → Type 0
Follows all a xs = (k : ℕ) → slice_get all (a + k) ≡ slice_get xs k

follows-rest : {T : Type 0} (all : List T) (a : ℕ) (x : T) (xs : List T) → Follows all a (x ∷ xs) → Follows all (a + 1) xs
follows-rest all a x xs f k = ap (slice_get all) (later a k) ∙ f (suc k)
  where
    later : (a k : ℕ) → (a + 1) + k ≡ a + suc k
    later a k = omega arith

follows-first : {T : Type 0} (all : List T) (a : ℕ) (x : T) (xs : List T) → Follows all a (x ∷ xs) → slice_get all a ≡ Some x
follows-first all a x xs f = ap (slice_get all) (none a) ∙ f 0
  where
    none : (a : ℕ) → a ≡ a + 0
    none a = omega arith

-- among the members of an image
among-shows : (all : List SetImage) (a : ℕ) (i : SetImage) → slice_get all a ≡ Some i → (k : ℕ) (ms : List Member)
    → Follows i.members k ms → (n : ℕ) → bug_at all (position_among a k ms n) ≡ option_map (bug_of i) (member_at ms n)
among-shows all a i e k [] f n = refl
among-shows all a i e k (m ∷ ms) f n =
    elim (eqb m.number n) as (λ t. bug_at all (cond t (Some (record { image = a; member = k })) (position_among a (k + 1) ms n))
    ≡ option_map (bug_of i) (cond t (Some m) (member_at ms n))) [
      | true ↦ ap (option_and_then (λ j. option_map (bug_of j) (slice_get j.members k))) e
          ∙ ap (option_map (bug_of i)) (follows-first i.members k m ms f)
      | false ↦ among-shows all a i e (k + 1) ms (follows-rest i.members k m ms f) n
    ]

among-none : (a k : ℕ) (ms : List Member) (n : ℕ) → member_at ms n ≡ None → position_among a k ms n ≡ None
among-none a k [] n h = refl
among-none a k (m ∷ ms) n h =
    elim (eqb m.number n) as (λ t. cond t (Some m) (member_at ms n) ≡ None
    → cond t (Some (record { image = a; member = k })) (position_among a (k + 1) ms n) ≡ None)
    [ true ↦ λ h. absurd (none-some m (sym h)) | false ↦ λ h. among-none a (k + 1) ms n h ] h

positions-show : (all : List SetImage) (a : ℕ) (is : List SetImage) → Follows all a is → (n : ℕ)
    → bug_at all (position_in a is n) ≡ bug_in is n
positions-show all a [] f n = refl
positions-show all a (i ∷ is) f n =
    cases (positions-show all (a + 1) is (follows-rest all a i is f) n) (member_at i.members n) refl
    (position_among a 0 i.members n)
    refl
  where
    here : bug_at all (position_among a 0 i.members n) ≡ option_map (bug_of i) (member_at i.members n)
    here = among-shows all a i (follows-first all a i is f) 0 i.members (λ k. ap (slice_get i.members) (from_zero k)) n
      where
        from_zero : (k : ℕ) → 0 + k ≡ k
        from_zero k = omega arith

    cases : bug_at all (position_in (a + 1) is n) ≡ bug_in is n → (o : Option Member) → member_at i.members n ≡ o
        → (p : Option Position) → position_among a 0 i.members n ≡ p
        → bug_at all (option_or (position_among a 0 i.members n) (position_in (a + 1) is n))
        ≡ option_or (option_map (bug_of i) (member_at i.members n)) (bug_in is n)
    cases later None h p q =
        ap (λ o. bug_at all (option_or o (position_in (a + 1) is n))) (among-none a 0 i.members n h) ∙ later
        ∙ ap (λ o. option_or (option_map (bug_of i) o) (bug_in is n)) (sym h)
    cases later (Some x) h None q =
        absurd (none-some (bug_of i x) (ap (bug_at all) (sym q) ∙ here ∙ ap (option_map (bug_of i)) h))
    cases later (Some x) h (Some p) q =
        ap (λ o. bug_at all (option_or o (position_in (a + 1) is n))) q ∙ shown x h p q
        ∙ ap (λ o. option_or (option_map (bug_of i) o) (bug_in is n)) (sym h)
      where
        shown : (x : Member) → member_at i.members n ≡ Some x → (p : Position) → position_among a 0 i.members n ≡ Some p
            → bug_at all (Some p) ≡ Some (bug_of i x)
        shown x h p q = ap (bug_at all) (sym q) ∙ here ∙ ap (option_map (bug_of i)) h

pub positions-right : (is : List SetImage) (n : ℕ) → bug_at is (position_in 0 is n) ≡ bug_in is n
positions-right is n = positions-show is 0 is (λ k. ap (slice_get is) (from_zero k)) n
  where
    from_zero : (k : ℕ) → 0 + k ≡ k
    from_zero k = omega arith

-- what a look-up by index gives, of a list that is shown
pub looked-up : {X : Type 0} (all shown : List X) (k : ℕ) (r : Option (Bor X)) → IsItemAt all k r → all ≡ shown
    → slice_get shown k ≡ option_copied r
looked-up {X} all shown k r h v = ap (λ (xs : List X). slice_get xs k) (sym v) ∙ got r h
  where
    got : (r : Option (Bor X)) → IsItemAt all k r → slice_get all k ≡ option_copied r
    got None h = slice_get_past all k h.3
    got (Some x) h = slice_get_read all (length all) k x.now refl h.3.0 h.1

-- the bug at the position that a look-up gives, or none
pub bug-there : (all shown : List SetImage) (n : ℕ) (r : Option (Bor Position)) (p : Option Position) → option_copied r ≡ p
    → bug_at all p ≡ bug_in all n → all ≡ shown → (s : Option (Bor Position)) → r ≡ s
    → bug_at shown (option_copied s) ≡ bug_in shown n
bug-there all shown n r p e h v s q =
    ap (λ (z : Option (Bor Position)). bug_at shown (option_copied z)) (sym q) ∙ ap (bug_at shown) e
    ∙ subst (λ (js : List SetImage). bug_at js p ≡ bug_in js n) v h

-- it is of an image that is there, and of a member of that
pub bug-of_image : (is : List SetImage) (n : ℕ) (p : Position) → bug_at is (Some p) ≡ bug_in is n → (o : Option SetImage)
    → slice_get is p.image ≡ o → bug_in is n ≡ option_and_then (λ i. option_map (bug_of i) (slice_get i.members p.member)) o
bug-of_image is n p h o e = sym h ∙ ap (option_and_then (λ i. option_map (bug_of i) (slice_get i.members p.member))) e

pub bug-of_member : (is : List SetImage) (n : ℕ) (p : Position) → bug_at is (Some p) ≡ bug_in is n → (i : SetImage)
    → slice_get is p.image ≡ Some i → (o : Option Member) → slice_get i.members p.member ≡ o
    → bug_in is n ≡ option_map (bug_of i) o
bug-of_member is n p h i e o f = bug-of_image is n p h (Some i) e ∙ ap (option_map (bug_of i)) f
