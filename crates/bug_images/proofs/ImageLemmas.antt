-- What images of sets show, and of which desk.
use Rattle.std.proofs.Common.{◌≡◌, ℕ, Bool, true, false, cond, ◌||◌, eqb, List, [], ◌∷◌, ◌++◌, Option, Some, None, sym, refl, ap}
use Rattle.std.proofs.Common.{◌∙◌, subst}
use Rattle.std.specs.Prelude.{option_map}
use Rattle.std.proofs.lemmas.Option.{same_Some, none-some}
use Rattle.std.proofs.lemmas.Bool.{false≢true, eqb-true}
use Rattle.bug_record.specs.Sets.{has, Each}
use Rattle.bug_record.specs.Desk.{Desk}
use Rattle.bug_record.specs.Images.{numbers_of, member_at, bug_of, bug_in, AreApart, IsSetOf, AreSetsOf, image_with}
use Rattle.std.specs.Option.{option_or}
use Rattle.bug_record.specs.declared.bug.Bug.{Bug}
use Rattle.bug_record.specs.declared.bug.Member.{Member}
use Rattle.bug_record.specs.declared.bug.SetImage.{SetImage}

-- a value, or none, of a choice of two
pub none_left : {A : Type 0} (o p : Option A) → option_or o p ≡ None → o ≡ None
none_left None p h = refl
none_left (Some a) p h = absurd (none-some a (sym h))

pub none_right : {A : Type 0} (o p : Option A) → option_or o p ≡ None → p ≡ None
none_right None p h = h
none_right (Some a) p h = absurd (none-some a (sym h))

pub none_both : {A : Type 0} (o p : Option A) → o ≡ None → p ≡ None → option_or o p ≡ None
none_both None p h k = k
none_both (Some a) p h k = h

pub none_map : {A B : Type 0} (f : A → B) (o : Option A) → option_map f o ≡ None → o ≡ None
none_map f None h = refl
none_map f (Some a) h = absurd (none-some (f a) (sym h))

pub none_from : {A : Type 0} (o : Option A) → ((a : A) → o ≡ Some a → ⊥) → o ≡ None
none_from None h = refl
none_from (Some a) h = absurd (h a refl)

-- a bug that is on a desk is the only one of its number
pub same_value : {A : Type 0} {o : Option A} (a b : A) → o ≡ Some a → o ≡ Some b → a ≡ b
same_value a b h k = same_Some a b (sym h ∙ k)

-- a member that is there has its number among the numbers
pub has-member_some : (ms : List Member) (n : ℕ) (x : Member) → member_at ms n ≡ Some x → has (numbers_of ms) n ≡ true
has-member_some [] n x h = absurd (none-some x h)
has-member_some (m ∷ ms) n x h =
    elim (eqb m.number n) as (λ t. cond t (Some m) (member_at ms n) ≡ Some x → (t || has (numbers_of ms) n) ≡ true)
    [ true ↦ λ _. refl | false ↦ λ e. has-member_some ms n x e ] h

pub has-member_none : (ms : List Member) (n : ℕ) → member_at ms n ≡ None → has (numbers_of ms) n ≡ false
has-member_none [] n h = refl
has-member_none (m ∷ ms) n h =
    elim (eqb m.number n) as (λ t. cond t (Some m) (member_at ms n) ≡ None → (t || has (numbers_of ms) n) ≡ false)
    [ true ↦ λ e. absurd (none-some m (sym e)) | false ↦ λ e. has-member_none ms n e ] h

pub member-has : (ms : List Member) (n : ℕ) → has (numbers_of ms) n ≡ true → (x : Member) × (member_at ms n ≡ Some x)
member-has [] n h = absurd (false≢true h)
member-has (m ∷ ms) n h =
    elim (eqb m.number n) as (λ t. (t || has (numbers_of ms) n) ≡ true → (x : Member)
    × (cond t (Some m) (member_at ms n) ≡ Some x))
    [ true ↦ λ _. (m, refl) | false ↦ λ e. member-has ms n e ] h

pub no_member-has : (ms : List Member) (n : ℕ) → has (numbers_of ms) n ≡ false → member_at ms n ≡ None
no_member-has ms n h = none_from (member_at ms n) (λ x e. false≢true (sym h ∙ has-member_some ms n x e))

-- the member n has the number n
pub number-member : (ms : List Member) (n : ℕ) (x : Member) → member_at ms n ≡ Some x → x.number ≡ n
number-member [] n x h = absurd (none-some x h)
number-member (m ∷ ms) n x h =
    elim (eqb m.number n) as (λ t. eqb m.number n ≡ t → cond t (Some m) (member_at ms n) ≡ Some x → x.number ≡ n) [
      | true ↦ λ e h. ap (λ (z : Member). z.number) (sym (same_Some _ _ h)) ∙ eqb-true m.number n e
      | false ↦
          λ e h. number-member ms n x h
    ] refl h

-- what holds of each member holds of the one that is found
pub each-member : (P : Member → Type 0) (ms : List Member) (n : ℕ) (x : Member) → Each P ms → member_at ms n ≡ Some x → P x
each-member P [] n x h e = absurd (none-some x e)
each-member P (m ∷ ms) n x h e =
    elim (eqb m.number n) as (λ t. cond t (Some m) (member_at ms n) ≡ Some x → P x)
    [ true ↦ λ e. subst P (same_Some _ _ e) h.0 | false ↦ λ e. each-member P ms n x h.1 e ] e

-- images one after another
pub bug_in-append : (xs ys : List SetImage) (m : ℕ) → bug_in (xs ++ ys) m ≡ option_or (bug_in xs m) (bug_in ys m)
bug_in-append [] ys m = refl
bug_in-append (i ∷ xs) ys m =
    elim (member_at i.members m) as (λ o. option_or (option_map (bug_of i) o) (bug_in (xs ++ ys) m)
    ≡ option_or (option_or (option_map (bug_of i) o) (bug_in xs m)) (bug_in ys m))
    [ None ↦ bug_in-append xs ys m | Some x ↦ refl ]

-- a set that the images show is shown whole
pub bug_in-merged : (is : List SetImage) (n m : ℕ) (b : Bug) → bug_in is n ≡ Some b → has b.merged m ≡ true → bug_in is m ≡ None
    → ⊥
bug_in-merged [] n m b h k e = absurd (none-some b h)
bug_in-merged (i ∷ is) n m b h k e =
    elim (member_at i.members n) as (λ o. member_at i.members n ≡ o → option_or (option_map (bug_of i) o) (bug_in is n) ≡ Some b
    → ⊥) [
      | None ↦ λ a h. bug_in-merged is n m b h k (none_right (option_map (bug_of i) (member_at i.members m)) (bug_in is m) e)
      | Some x ↦ λ a h.
          let none : member_at i.members m ≡ None =
          none_map (bug_of i) (member_at i.members m)
          (none_left (option_map (bug_of i) (member_at i.members m)) (bug_in is m) e) in
          absurd (false≢true (sym (has-member_none i.members m none) ∙ ap (λ (z : Bug). has z.merged m) (same_Some _ _ h) ∙ k))
    ] refl h

-- what a set of a desk shows is on the desk, and so with all the images
pub bug-member : (d : Desk) (i : SetImage) (n : ℕ) (x : Member) → IsSetOf d i → member_at i.members n ≡ Some x
    → d.bug n ≡ Some (bug_of i x)
bug-member d i n x h e =
    ap d.bug (sym (number-member i.members n x e))
    ∙ each-member (λ (m : Member). d.bug m.number ≡ Some (bug_of i m)) i.members n x h e

pub shown : (d : Desk) (is : List SetImage) → AreSetsOf d is → (n : ℕ) (b : Bug) → bug_in is n ≡ Some b → d.bug n ≡ Some b
shown d [] h n b e = absurd (none-some b e)
shown d (i ∷ is) h n b e =
    elim (member_at i.members n) as (λ o. member_at i.members n ≡ o → option_or (option_map (bug_of i) o) (bug_in is n) ≡ Some b
    → d.bug n ≡ Some b)
    [ None ↦ λ a e. shown d is h.1 n b e | Some x ↦ λ a e. bug-member d i n x h.0 a ∙ e ] refl e

-- the image that has a bug
pub image_with-has : (is : List SetImage) (n : ℕ) (i : SetImage) → image_with is n ≡ Some i → has (numbers_of i.members) n ≡ true
image_with-has [] n i h = absurd (none-some i h)
image_with-has (j ∷ is) n i h =
    elim (has (numbers_of j.members) n) as (λ t. has (numbers_of j.members) n ≡ t → cond t (Some j) (image_with is n) ≡ Some i
    → has (numbers_of i.members) n ≡ true) [
      | true ↦ λ e h. ap (λ (z : SetImage). has (numbers_of z.members) n) (sym (same_Some _ _ h)) ∙ e
      | false ↦
          λ e h. image_with-has is n i h
    ] refl h

pub image_with-shows : (is : List SetImage) (n : ℕ) (i : SetImage) → image_with is n ≡ Some i → (x : Member)
    × (bug_in is n ≡ Some (bug_of i x))
image_with-shows [] n i h = absurd (none-some i h)
image_with-shows (j ∷ is) n i h =
    elim (member_at j.members n) as (λ o. member_at j.members n ≡ o → (x : Member)
    × (option_or (option_map (bug_of j) o) (bug_in is n) ≡ Some (bug_of i x))) [
      | None ↦ λ e. image_with-shows is n i
          (ap (λ t. cond t (Some j) (image_with is n)) (sym (has-member_none j.members n e)) ∙ h)
      | Some x ↦ λ e. (
        x,
        ap (λ (z : SetImage). Some (bug_of z x))
            (same_Some _ _ (ap (λ t. cond t (Some j) (image_with is n)) (sym (has-member_some j.members n x e)) ∙ h)),
      )
    ] refl

pub image_with-none : (is : List SetImage) (n : ℕ) → image_with is n ≡ None → bug_in is n ≡ None
image_with-none [] n h = refl
image_with-none (j ∷ is) n h =
    elim (member_at j.members n) as (λ o. member_at j.members n ≡ o → option_or (option_map (bug_of j) o) (bug_in is n) ≡ None) [
      | None ↦ λ e. image_with-none is n (ap (λ t. cond t (Some j) (image_with is n)) (sym (has-member_none j.members n e)) ∙ h)
      | Some x ↦ λ e. absurd
          (none-some j (sym (ap (λ t. cond t (Some j) (image_with is n)) (sym (has-member_some j.members n x e)) ∙ h)))
    ] refl

-- a bug in no image is not in this one
pub image_with-lacks : (is : List SetImage) (n m : ℕ) (i : SetImage) → image_with is n ≡ Some i → bug_in is m ≡ None
    → member_at i.members m ≡ None
image_with-lacks [] n m i h e = absurd (none-some i h)
image_with-lacks (j ∷ is) n m i h e =
    elim (has (numbers_of j.members) n) as (λ t. cond t (Some j) (image_with is n) ≡ Some i → member_at i.members m ≡ None) [
      | true ↦ λ h. ap (λ (z : SetImage). member_at z.members m) (sym (same_Some _ _ h))
          ∙ none_map (bug_of j) (member_at j.members m)
          (none_left (option_map (bug_of j) (member_at j.members m)) (bug_in is m) e)
      | false ↦ λ h. image_with-lacks is n m i h (none_right (option_map (bug_of j) (member_at j.members m)) (bug_in is m) e)
    ] h

pub image_with-merged : (d : Desk) (is : List SetImage) (n : ℕ) (i : SetImage) → AreSetsOf d is → image_with is n ≡ Some i
    → IsSetOf d i
image_with-merged d [] n i b h = absurd (none-some i h)
image_with-merged d (j ∷ is) n i b h =
    elim (has (numbers_of j.members) n) as (λ t. cond t (Some j) (image_with is n) ≡ Some i → IsSetOf d i)
    [ true ↦ λ h. subst (IsSetOf d) (same_Some _ _ h) b.0 | false ↦ λ h. image_with-merged d is n i b.1 h ] h

-- of images that are apart, n's shows each bug that is merged with n
pub image_with-bug : (is : List SetImage) (n m : ℕ) (i : SetImage) (b : Bug) → AreApart is → image_with is n ≡ Some i
    → bug_in is m ≡ Some b → has b.merged n ≡ true
    → (x : Member) × (member_at i.members m ≡ Some x) × (b ≡ bug_of i x)
image_with-bug [] n m i b a h e k = absurd (none-some i h)
image_with-bug (j ∷ is) n m i b a h e k =
    elim (member_at j.members m) as (λ o. member_at j.members m ≡ o → option_or (option_map (bug_of j) o) (bug_in is m) ≡ Some b
    → (x : Member) × (member_at i.members m ≡ Some x) × (b ≡ bug_of i x)) [
      | None ↦ λ q e. image_with-bug is n m i b a.1 (later e (has (numbers_of j.members) n) refl) e k
      | Some x ↦ λ q e.
          let mine : has (numbers_of j.members) n ≡ true = ap (λ (z : Bug). has z.merged n) (same_Some _ _ e) ∙ k in
          let same : j ≡ i = same_Some _ _ (sym (ap (λ t. cond t (Some j) (image_with is n)) mine) ∙ h) in (
            x,
            ap (λ (z : SetImage). member_at z.members m) (sym same) ∙ q,
            sym (same_Some _ _ e)
                ∙ ap (λ (z : SetImage). bug_of z x) same,
          )
    ] refl e
  where
    later : bug_in is m ≡ Some b → (t : Bool) → has (numbers_of j.members) n ≡ t → image_with is n ≡ Some i
    later e true q = absurd (bug_in-merged is m n b e k (a.0 n q))
    later e false q = ap (λ t. cond t (Some j) (image_with is n)) (sym q) ∙ h

-- and every bug that it has
pub image_with-member : (is : List SetImage) (n m : ℕ) (i : SetImage) (x : Member) → AreApart is → image_with is n ≡ Some i
    → member_at i.members m ≡ Some x → bug_in is m ≡ Some (bug_of i x)
image_with-member [] n m i x a h e = absurd (none-some i h)
image_with-member (j ∷ is) n m i x a h e =
    elim (has (numbers_of j.members) n) as (λ t. cond t (Some j) (image_with is n) ≡ Some i
    → bug_in (j ∷ is) m ≡ Some (bug_of i x)) [
      | true ↦ λ h. let same : j ≡ i = same_Some _ _ h in
          ap (λ (o : Option Member). option_or (option_map (bug_of j) o) (bug_in is m))
          (ap (λ (z : SetImage). member_at z.members m) same ∙ e) ∙ ap (λ (z : SetImage). Some (bug_of z x)) same
      | false ↦ λ h. beside (image_with-member is n m i x a.1 h e) (member_at j.members m) refl
    ] h
  where
    beside : bug_in is m ≡ Some (bug_of i x) → (o : Option Member) → member_at j.members m ≡ o
        → bug_in (j ∷ is) m ≡ Some (bug_of i x)
    beside q None r = ap (λ (o : Option Member). option_or (option_map (bug_of j) o) (bug_in is m)) r ∙ q
    beside q (Some y) r = absurd (none-some (bug_of i x) (sym (a.0 m (has-member_some j.members m y r)) ∙ q))
