-- The images of other sets than those of some bugs.
use Rattle.std.proofs.Common.{◌≡◌, ℕ, Bool, true, false, cond, not, ◌&&◌, List, [], ◌∷◌, Option, Some, None, sym, refl, ap, ◌∙◌}
use Rattle.std.specs.Prelude.{option_map}
use Rattle.std.proofs.lemmas.Option.{same_Some}
use Rattle.std.proofs.lemmas.Bool.{and_right, not_from_true}
use Rattle.bug_record.specs.Sets.{Each}
use Rattle.bug_record.specs.Images.{member_at, bug_of, bug_in, AreApart, HasMember}
use Rattle.std.specs.Option.{option_or}
use Rattle.bug_record.specs.declared.bug.Bug.{Bug}
use Rattle.bug_record.specs.declared.bug.Member.{Member}
use Rattle.bug_record.specs.declared.bug.SetImage.{SetImage}
use Rattle.bug_core.specs.Others.{is_any, has_any, is_meant, is_other, others}
use Rattle.bug_images.proofs.ImageLemmas.{none_left, none_right, none_both, has-member_some}

-- the first image: one of the bugs' is left out, and of another each bug is shown
others-own : (ns : List ℕ) (j : SetImage) (is : List SetImage) → is_meant ns j ≡ true → others ns (j ∷ is) ≡ others ns is
others-own ns j is h =
    ap (λ t. cond t (j ∷ others ns is) (others ns is))
    (and_right (is_any j.members) (not (is_meant ns j)) (not_from_true (is_meant ns j) h))

others-first : (ns : List ℕ) (j : SetImage) (is : List SetImage) (m : ℕ) → is_meant ns j ≡ false
    → bug_in (others ns (j ∷ is)) m ≡ option_or (option_map (bug_of j) (member_at j.members m)) (bug_in (others ns is) m)
others-first ns j is m h =
    ap (λ t. bug_in (cond (is_any j.members && not t) (j ∷ others ns is) (others ns is)) m) h ∙ cases j.members refl
  where
    cases : (ms : List Member) → j.members ≡ ms
        → bug_in (cond (is_any ms && true) (j ∷ others ns is) (others ns is)) m
        ≡ option_or (option_map (bug_of j) (member_at j.members m)) (bug_in (others ns is) m)
    cases [] e = sym (ap (λ ms. option_or (option_map (bug_of j) (member_at ms m)) (bug_in (others ns is) m)) e)
    cases (x ∷ xs) e = refl

-- the first image has none of the bugs, or it is left out
others-beside : (ns : List ℕ) (j : SetImage) (is : List SetImage) (m : ℕ) → member_at j.members m ≡ None
    → bug_in (others ns (j ∷ is)) m ≡ bug_in (others ns is) m
others-beside ns j is m e =
    elim (is_meant ns j) as (λ t. is_meant ns j ≡ t → bug_in (others ns (j ∷ is)) m ≡ bug_in (others ns is) m) [
      | true ↦ λ q. ap (λ js. bug_in js m) (others-own ns j is q)
      | false ↦ λ q. others-first ns j is m q
          ∙ ap (λ (o : Option Member). option_or (option_map (bug_of j) o) (bug_in (others ns is) m)) e
    ] refl

-- the others show no more bugs than all
pub others-none : (ns : List ℕ) (is : List SetImage) (m : ℕ) → bug_in is m ≡ None → bug_in (others ns is) m ≡ None
others-none ns [] m h = refl
others-none ns (j ∷ is) m h =
    elim (is_meant ns j) as (λ t. is_meant ns j ≡ t → bug_in (others ns (j ∷ is)) m ≡ None) [
      | true ↦ λ e. ap (λ js. bug_in js m) (others-own ns j is e) ∙ others-none ns is m (none_right here (bug_in is m) h)
      | false ↦ λ e. others-first ns j is m e
          ∙ none_both here (bug_in (others ns is) m) (none_left here (bug_in is m) h)
          (others-none ns is m (none_right here (bug_in is m) h))
    ] refl
  where
    here : Option Bug
    here = option_map (bug_of j) (member_at j.members m)

-- they show none that is merged with one of the bugs
pub others-gone : (ns : List ℕ) (is : List SetImage) (m : ℕ) (b : Bug) → AreApart is → bug_in is m ≡ Some b
    → has_any b.merged ns ≡ true → bug_in (others ns is) m ≡ None
others-gone ns [] m b a h k = refl
others-gone ns (j ∷ is) m b a h k =
    elim (member_at j.members m) as (λ o. member_at j.members m ≡ o → option_or (option_map (bug_of j) o) (bug_in is m) ≡ Some b
    → bug_in (others ns (j ∷ is)) m ≡ None) [
      | None ↦ λ e h. others-beside ns j is m e ∙ others-gone ns is m b a.1 h k
      | Some x ↦ λ e h.
          ap (λ js. bug_in js m) (others-own ns j is (ap (λ (z : Bug). has_any z.merged ns) (same_Some _ _ h) ∙ k))
          ∙ others-none ns is m (a.0 m (has-member_some j.members m x e))
    ] refl h

-- and every one that is merged with none of them
pub others-kept : (ns : List ℕ) (is : List SetImage) (m : ℕ) (b : Bug) → bug_in is m ≡ Some b → has_any b.merged ns ≡ false
    → bug_in (others ns is) m ≡ Some b
others-kept ns [] m b h k = h
others-kept ns (j ∷ is) m b h k =
    elim (member_at j.members m) as (λ o. member_at j.members m ≡ o → option_or (option_map (bug_of j) o) (bug_in is m) ≡ Some b
    → bug_in (others ns (j ∷ is)) m ≡ Some b) [
      | None ↦ λ e h. others-beside ns j is m e ∙ others-kept ns is m b h k
      | Some x ↦ λ e h.
          others-first ns j is m (ap (λ (z : Bug). has_any z.merged ns) (same_Some _ _ h) ∙ k)
          ∙ ap (λ (o : Option Member). option_or (option_map (bug_of j) o) (bug_in (others ns is) m)) e ∙ h
    ] refl h

cons_nil : (x : Member) (xs : List Member) → x ∷ xs ≡ [] → ⊥
cons_nil x xs q = cc

-- the others are apart, and have a member each
pub others-apart : (ns : List ℕ) (is : List SetImage) → AreApart is → AreApart (others ns is)
others-apart ns [] h = tt
others-apart ns (j ∷ is) h =
    elim (is_other ns j) as (λ t. AreApart (cond t (j ∷ others ns is) (others ns is)))
    [ true ↦ ((λ m k. others-none ns is m (h.0 m k)), others-apart ns is h.1) | false ↦ others-apart ns is h.1 ]

pub others-members : (ns : List ℕ) (is : List SetImage) → Each HasMember (others ns is)
others-members ns [] = tt
others-members ns (j ∷ is) = cases j.members refl (not (is_meant ns j)) (others-members ns is)
  where
    cases : (ms : List Member) → j.members ≡ ms → (t : Bool) → Each HasMember (others ns is)
        → Each HasMember (cond (is_any ms && t) (j ∷ others ns is) (others ns is))
    cases [] e t r = r
    cases (x ∷ xs) e true r = ((λ k. cons_nil x xs (sym e ∙ k)), r)
    cases (x ∷ xs) e false r = r
