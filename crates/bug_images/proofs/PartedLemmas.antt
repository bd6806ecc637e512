-- What differs where no set stays the same bugs.
use Rattle.std.proofs.Common.{◌≡◌, ◌<◌, ℕ, Bool, true, false, not, ◌||◌, eqb, List, [], ◌∷◌, Option, Some, None, sym, refl}
use Rattle.std.proofs.Common.{◌++◌, ◌+◌, zero, suc, length, take, drop, get_or, ap, ◌∙◌, subst, arith, inl, inr}
use Rattle.std.specs.Prelude.{◌≢◌, is_some, option_map}
use Rattle.std.specs.Str.{bytes_eq}
use Rattle.std.specs.Option.{option_or}
use Rattle.std.proofs.lemmas.Bool.{false≢true, eqb-true, eq-eqb, not-true, and_parts, or_parts, or_cases, or_left, or_right}
use Rattle.std.proofs.lemmas.List.{append-nil, map-append, take_more, at_drop_more}
use Rattle.std.proofs.lemmas.Option.{none-some, same_Some}
use Rattle.std.proofs.lemmas.Slice.Eq.{bytes_eq-Decides}
use Rattle.bug_record.specs.Sets.{has, IsAscending, Each}
use Rattle.bug_record.specs.Images.{numbers_of, member_at, bug_of, bug_in}
use Rattle.bug_record.specs.Changed.{AreChanged}
use Rattle.bug_record.specs.declared.bug.Bug.{Bug}
use Rattle.bug_record.specs.declared.bug.Member.{Member}
use Rattle.bug_record.specs.declared.bug.SetImage.{SetImage}
use Rattle.base_sequences.proofs.SetLemmas.{has-append}
use Rattle.bug_images.specs.Parted.{is_unlike, numbers_in, IsParted, AreAmong, HasAll}
use Rattle.bug_images.proofs.JoinLemmas.{is_some-first}

-- the tests tell it
unlike : (i : SetImage) (js : List SetImage) → is_unlike i js ≡ true → Each (λ j. numbers_of i.members ≢ numbers_of j.members) js
unlike i [] h = tt
unlike i (j ∷ js) h =
    let p = and_parts (not (bytes_eq (numbers_of i.members) (numbers_of j.members))) (is_unlike i js) h in (
      λ e. false≢true (sym (not-true (bytes_eq (numbers_of i.members) (numbers_of j.members)) p.0)
          ∙ (bytes_eq-Decides (numbers_of i.members) (numbers_of j.members)).1 e),
      unlike i js p.1,
    )

pub parted-one : (i : SetImage) (old new : List SetImage) → old ≡ i ∷ [] → is_unlike i new ≡ true → IsParted old new
parted-one i old new one h = subst (λ is. IsParted is new) (sym one) (unlike i new h, tt)

pub parted-into_one : (i : SetImage) (old new : List SetImage) → new ≡ i ∷ [] → is_unlike i old ≡ true → IsParted old new
parted-into_one i old new one h = subst (IsParted old) (sym one) (turned old (unlike i old h))
  where
    turned : (js : List SetImage) → Each (λ j. numbers_of i.members ≢ numbers_of j.members) js → IsParted js (i ∷ [])
    turned [] h = tt
    turned (j ∷ js) h = ((λ e. h.0 (sym e), tt), turned js h.1)

-- a bug of other bugs is no bug of the images
other_bug : (ns : List ℕ) (is : List SetImage) → Each (λ j. ns ≢ numbers_of j.members) is → (n : ℕ) (b : Bug)
    → bug_in is n ≡ Some b → ns ≡ b.merged → ⊥
other_bug ns [] h n b e q = none-some b e
other_bug ns (j ∷ js) h n b e q =
    elim (member_at j.members n) as (λ o. option_or (option_map (bug_of j) o) (bug_in js n) ≡ Some b → ⊥) [
      | None ↦ λ e. other_bug ns js h.1 n b e q
      | Some x ↦ λ e. h.0 (q ∙ ap (λ (z : Bug). z.merged) (sym (same_Some _ _ e)))
    ] e

no_bug_stays : (old new : List SetImage) → IsParted old new → (n : ℕ) (b : Bug) → bug_in old n ≡ Some b → bug_in new n ≡ Some b
    → ⊥
no_bug_stays [] new h n b e q = none-some b e
no_bug_stays (i ∷ is) new h n b e q =
    elim (member_at i.members n) as (λ o. option_or (option_map (bug_of i) o) (bug_in is n) ≡ Some b → ⊥) [
      | None ↦ λ e. no_bug_stays is new h.1 n b e q
      | Some x ↦ λ e. other_bug (numbers_of i.members) new h.0 n b q (ap (λ (z : Bug). z.merged) (same_Some _ _ e))
    ] e

-- the numbers of the images are those of their bugs
bugs-in : (is : List SetImage) (n : ℕ) → is_some (bug_in is n) ≡ has (numbers_in is) n
bugs-in [] n = refl
bugs-in (i ∷ is) n =
    is_some-first i is n ∙ ap (λ t. has (numbers_of i.members) n || t) (bugs-in is n)
    ∙ sym (has-append (numbers_of i.members) (numbers_in is) n)

no_bug : (o : Option Bug) → is_some o ≡ false → o ≡ None
no_bug None h = refl
no_bug (Some b) h = absurd (false≢true (sym h))

pub changed-parted : (old new : List SetImage) (r : List ℕ) → IsParted old new → IsAscending r
    → ((n : ℕ) → has r n ≡ (has (numbers_in old) n || has (numbers_in new) n)) → AreChanged (bug_in old) (bug_in new) r
changed-parted old new r h up numbers = record {
  ascending = up;
  listed = λ n t e. listed n (bug_in old n) refl (sym e) (sym (known n) ∙ t);
  others = λ n t.
      let p = or_parts (is_some (bug_in old n)) (is_some (bug_in new n)) (sym (known n) ∙ t) in
      no_bug (bug_in old n) p.0 ∙ sym (no_bug (bug_in new n) p.1);
}
  where
    known : (n : ℕ) → has r n ≡ (is_some (bug_in old n) || is_some (bug_in new n))
    known n = numbers n ∙ (λ j. sym (bugs-in old n) j || sym (bugs-in new n) j)

    listed : (n : ℕ) (o : Option Bug) → bug_in old n ≡ o → bug_in new n ≡ bug_in old n
        → (is_some (bug_in old n) || is_some (bug_in new n)) ≡ true → ⊥
    listed n None e q t =
        false≢true ((λ j. is_some (sym e j) || is_some (sym (q ∙ e) j)) ∙ t)
    listed n (Some b) e q t = no_bug_stays old new h n b e (q ∙ e)

-- the same of a list that is gathered from the old images, and then from the new ones
pub changed-all : (old new : List SetImage) (none first both sorted r : List ℕ) → IsParted old new → none ≡ []
    → first ≡ none ++ numbers_in old → both ≡ first ++ numbers_in new → IsAscending sorted
    → ((n : ℕ) → has sorted n ≡ has both n) → r ≡ sorted → AreChanged (bug_in old) (bug_in new) r
changed-all old new none first both sorted r h empty one two up numbers is =
    changed-parted old new r h (subst IsAscending (sym is) up)
    (λ n. ap (λ z. has z n) is ∙ numbers n
    ∙ ap (λ z. has z n) (two ∙ ap (λ z. z ++ numbers_in new) (one ∙ ap (λ z. z ++ numbers_in old) empty))
    ∙ has-append (numbers_in old) (numbers_in new) n)

-- ---- a whole set and its parts

-- the number of a member
pub has-at : (ms : List Member) (k : ℕ) (m : Member) → k < length ms → m ≡ get_or ms k m → has (numbers_of ms) m.number ≡ true
has-at [] k m l is = absurd (omega (arith, l))
has-at (x ∷ ms) zero m l is =
    or_left _ _ (eq-eqb x.number m.number (ap (λ (z : Member). z.number) (sym is)))
has-at (x ∷ ms) (suc k) m l is = or_right _ _ (has-at ms k m (omega (arith, l)) is)

-- the numbers of the first k members, and one more that is there
pub among-more : (ms : List Member) (ws : List ℕ) (k w : ℕ) (m : Member) → k < length ms → m ≡ get_or ms k m
    → m.number ≡ w → has ws w ≡ true → AreAmong (numbers_of (take k ms)) ws
    → AreAmong (numbers_of (take (k + 1) ms)) ws
among-more ms ws k w m l is same there h n t =
    elim (or_cases (has (numbers_of (take k ms)) n) (has (m.number ∷ []) n)
    (sym (has-append (numbers_of (take k ms)) (m.number ∷ []) n) ∙ ap (λ z. has z n) (sym parts) ∙ t)) [
      | inl a ↦ h n a
      | inr b ↦ ap (has ws) (sym (sym same ∙ eqb-true m.number n (one (eqb m.number n) b))) ∙ there
    ]
  where
    parts : numbers_of (take (k + 1) ms) ≡ numbers_of (take k ms) ++ m.number ∷ []
    parts =
        ap numbers_of (take_more ms k m l) ∙ map-append (λ (z : Member). z.number) (take k ms) (get_or ms k m ∷ [])
        ∙ ap (λ (z : Member). numbers_of (take k ms) ++ z.number ∷ []) (sym is)

    one : (t : Bool) → (t || false) ≡ true → t ≡ true
    one true e = refl
    one false e = e

-- those of all parts
pub parts-more : (is : List SetImage) (k : ℕ) (i : SetImage) (ws : List ℕ) → k < length is → i ≡ get_or is k i
    → AreAmong (numbers_of i.members) ws → AreAmong (numbers_in (drop (k + 1) is)) ws → AreAmong (numbers_in (drop k is)) ws
parts-more is k i ws l e one others n t =
    elim (or_cases (has (numbers_of i.members) n) (has (numbers_in (drop (k + 1) is)) n)
    (sym (has-append (numbers_of i.members) (numbers_in (drop (k + 1) is)) n)
    ∙ ap (λ (z : SetImage). has (numbers_in (z ∷ drop (k + 1) is)) n) e
    ∙ sym (at_drop_more (λ (z : List SetImage). has (numbers_in z) n) is k i l) ∙ t))
    [ inl a ↦ one n a | inr b ↦ others n b ]

none_more : (ws : List ℕ) (n : ℕ) → has (ws ++ []) n ≡ has ws n
none_more ws n = ap (λ z. has z n) (append-nil ws)

only : (a b : Bool) → (b ≡ true → a ≡ true) → a ≡ (a || b)
only true b h = refl
only false true h = h refl
only false false h = refl

only_right : (a b : Bool) → (b ≡ true → a ≡ true) → a ≡ (b || a)
only_right true true h = refl
only_right true false h = refl
only_right false true h = h refl
only_right false false h = refl

-- a set that is parted
pub changed-whole : (old new : List SetImage) (whole : SetImage) (r : List ℕ) → IsParted old new → old ≡ whole ∷ []
    → HasAll whole new → r ≡ numbers_of whole.members → AreChanged (bug_in old) (bug_in new) r
changed-whole old new whole r h one all is =
    changed-parted old new r h (subst IsAscending (sym is) all.ascending)
    (λ n. ap (λ z. has z n) is ∙ only (has (numbers_of whole.members) n) (has (numbers_in new) n) (all.numbers n)
    ∙ ap (λ t. t || has (numbers_in new) n)
    (sym (none_more (numbers_of whole.members) n) ∙ ap (λ (z : List SetImage). has (numbers_in z) n) (sym one)))

-- a set that is merged
pub changed-into_whole : (old new : List SetImage) (whole : SetImage) (r : List ℕ) → IsParted old new → new ≡ whole ∷ []
    → HasAll whole old → r ≡ numbers_of whole.members → AreChanged (bug_in old) (bug_in new) r
changed-into_whole old new whole r h one all is =
    changed-parted old new r h (subst IsAscending (sym is) all.ascending)
    (λ n. ap (λ z. has z n) is ∙ only_right (has (numbers_of whole.members) n) (has (numbers_in old) n) (all.numbers n)
    ∙ ap (λ t. has (numbers_in old) n || t)
    (sym (none_more (numbers_of whole.members) n) ∙ ap (λ (z : List SetImage). has (numbers_in z) n) (sym one)))

pub one_item : {T : Type 0} (xs : List T) (x : T) → length xs ≡ 1 → x ≡ get_or xs 0 x → xs ≡ x ∷ []
one_item [] x l e = absurd (omega (arith, l))
one_item (y ∷ []) x l e = ap (λ z. z ∷ []) (sym e)
one_item (y ∷ z ∷ ys) x l e = absurd (omega (arith, l))
