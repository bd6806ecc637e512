-- Images that take the place of those of some bugs' sets.
use Rattle.std.proofs.Common.{◌≡◌, ℕ, true, false, cond, ◌||◌, eqb, List, [], ◌∷◌, ◌++◌, Option, Some, None, sym, refl, ap, ◌∙◌}
use Rattle.std.specs.Prelude.{option_map, unwrap_or, map}
use Rattle.std.proofs.lemmas.Option.{none-some}
use Rattle.std.proofs.lemmas.Bool.{false≢true}
use Rattle.bug_record.specs.Sets.{has, Each}
use Rattle.bug_record.specs.Desk.{Desk, IsSound}
use Rattle.bug_record.specs.Bugs.{each_bug}
use Rattle.bug_record.specs.Images.{numbers_of, member_at, bug_of, bug_in, put, AreApart, HasMember, AreSetsOf, CoverSets}
use Rattle.bug_record.specs.Images.{image_with}
use Rattle.std.specs.Option.{option_or}
use Rattle.bug_record.specs.Plans.{AllKnown, CoverImages}
use Rattle.bug_record.specs.declared.bug.Bug.{Bug}
use Rattle.bug_record.specs.declared.bug.Shared.{Shared}
use Rattle.bug_record.specs.declared.bug.Member.{Member}
use Rattle.bug_record.specs.declared.bug.SetImage.{SetImage}
use Rattle.bug_core.specs.Others.{has_any, others}
use Rattle.bug_images.proofs.ImageLemmas.{none_left, none_right, none_both, same_value, member-has, bug_in-append, bug_in-merged}
use Rattle.bug_images.proofs.ImageLemmas.{shown, image_with-has, image_with-lacks, image_with-bug, image_with-member, number-member}
use Rattle.bug_core.proofs.OtherLemmas.{others-none, others-gone, others-kept, others-apart, others-members}
use Rattle.bug_fields.proofs.SoundLemmas.{agree}

-- The images `new` have the bugs of those images that have one of the bugs ns, and no others.
pub record TakesPlace (is : List SetImage) (ns : List ℕ) (new : List SetImage) : Type 0 where
  pub inside : (m : ℕ) (b : Bug) → bug_in is m ≡ Some b → has_any b.merged ns ≡ true → bug_in new m ≡ None → ⊥
  pub outside : (m : ℕ) (b : Bug) → bug_in is m ≡ Some b → has_any b.merged ns ≡ false → bug_in new m ≡ None
  pub nowhere : (m : ℕ) → bug_in is m ≡ None → bug_in new m ≡ None
  pub apart : AreApart new
  pub members : Each HasMember new

-- Of a desk: they have each bug as f makes it, and f is for the bugs merged with one of ns alone.
pub record Makes (d : Desk) (is : List SetImage) (ns : List ℕ) (new : List SetImage) (f : ℕ → Bug → Bug) : Type 0 where
  pub inside : (m : ℕ) (b : Bug) → bug_in is m ≡ Some b → has_any b.merged ns ≡ true → bug_in new m ≡ Some (f m b)
  pub elsewhere : (m : ℕ) (b : Bug) → d.bug m ≡ Some b → has_any b.merged ns ≡ false → f m b ≡ b

-- two lists of images that have no bug in common
pub apart-append : (xs ys : List SetImage) → AreApart xs → AreApart ys → ((m : ℕ) → (bug_in xs m ≡ None → ⊥) → bug_in ys m ≡ None)
    → AreApart (xs ++ ys)
apart-append [] ys a b h = b
apart-append (x ∷ xs) ys a b h = (
  (λ m k. bug_in-append xs ys m ∙ none_both (bug_in xs m) (bug_in ys m) (a.0 m k) (h m (λ e. there m k e))),
  apart-append xs ys a.1 b (λ m k. h m (λ e. k (none_right (option_map (bug_of x) (member_at x.members m)) (bug_in xs m) e))),
)
  where
    there : (m : ℕ) → has (numbers_of x.members) m ≡ true
        → option_or (option_map (bug_of x) (member_at x.members m)) (bug_in xs m) ≡ None → ⊥
    there m k e = let y = member-has x.members m k in
        none-some (bug_of x y.0)
        (sym (none_left (option_map (bug_of x) (member_at x.members m)) (bug_in xs m) e) ∙ ap (option_map (bug_of x)) y.1)

pub each-append : {T : Type 0} (P : T → Type 0) (xs ys : List T) → Each P xs → Each P ys → Each P (xs ++ ys)
each-append P [] ys a b = b
each-append P (x ∷ xs) ys a b = (a.0, each-append P xs ys a.1 b)

-- what the images after the change are, whatever those handed in
pub apart-replaced : (is : List SetImage) (ns : List ℕ) (new : List SetImage) → AreApart is → TakesPlace is ns new
    → AreApart (new ++ others ns is)
apart-replaced is ns new a p =
    apart-append new (others ns is) p.apart (others-apart ns is a) (λ m k. clear m k (bug_in is m) refl)
  where
    clear : (m : ℕ) → (bug_in new m ≡ None → ⊥) → (o : Option Bug) → bug_in is m ≡ o → bug_in (others ns is) m ≡ None
    clear m k None e = others-none ns is m e
    clear m k (Some b) e =
        elim (has_any b.merged ns) as (λ t. has_any b.merged ns ≡ t → bug_in (others ns is) m ≡ None)
        [ true ↦ λ q. others-gone ns is m b a e q | false ↦ λ q. absurd (k (p.outside m b e q)) ] refl

pub members-replaced : (is : List SetImage) (ns : List ℕ) (new : List SetImage) → TakesPlace is ns new
    → Each HasMember (new ++ others ns is)
members-replaced is ns new p = each-append HasMember new (others ns is) p.members (others-members ns is)

-- they have the bugs of those handed in
pub covers-replaced : (is : List SetImage) (ns : List ℕ) (new : List SetImage) → TakesPlace is ns new
    → CoverImages is (new ++ others ns is)
covers-replaced is ns new p m e = cases (bug_in is m) refl
  where
    parts : option_or (bug_in new m) (bug_in (others ns is) m) ≡ None
    parts = sym (bug_in-append new (others ns is) m) ∙ e

    cases : (o : Option Bug) → bug_in is m ≡ o → bug_in is m ≡ None
    cases None q = q
    cases (Some b) q =
        elim (has_any b.merged ns) as (λ t. has_any b.merged ns ≡ t → bug_in is m ≡ None) [
          | true ↦ λ k. absurd (p.inside m b q k (none_left (bug_in new m) (bug_in (others ns is) m) parts))
          | false ↦ λ k. absurd
              (none-some b (sym (none_right (bug_in new m) (bug_in (others ns is) m) parts) ∙ others-kept ns is m b q k))
        ] refl

-- and no others
pub none-replaced : (is : List SetImage) (ns : List ℕ) (new : List SetImage) → TakesPlace is ns new → (m : ℕ) → bug_in is m ≡ None
    → bug_in (new ++ others ns is) m ≡ None
none-replaced is ns new p m e =
    bug_in-append new (others ns is) m
    ∙ none_both (bug_in new m) (bug_in (others ns is) m) (p.nowhere m e) (others-none ns is m e)

-- images that have the bugs of whole sets of a desk cover whole sets
pub whole-sets : (d : Desk) (is js : List SetImage) → IsSound d → AreSetsOf d is → CoverImages is js
    → ((m : ℕ) → bug_in is m ≡ None → bug_in js m ≡ None) → CoverSets d js
whole-sets d is js sound sets covers none n m b h k q e = cases (bug_in is n) refl
  where
    cases : (o : Option Bug) → bug_in is n ≡ o → ⊥
    cases None r = k (none n r)
    cases (Some c) r = bug_in-merged is n m c r (ap (λ (z : Bug). has z.merged m) (same_value c b (shown d is sets n c r) h) ∙ q)
        (covers m e)

-- a bug of the desk that is merged with one that the images show is shown too
shown-mate : (d : Desk) (is : List SetImage) (ns : List ℕ) (m : ℕ) (c : Bug) → IsSound d → AllKnown d is ns → d.bug m ≡ Some c
    → bug_in is m ≡ None → has_any c.merged ns ≡ true → ⊥
shown-mate d is [] m c sound k e q h = false≢true h
shown-mate d is (n ∷ ns) m c sound k e q h =
    elim (has c.merged n) as (λ t. has c.merged n ≡ t → (t || has_any c.merged ns) ≡ true → ⊥) [
      | true ↦ λ r _.
          let mate = agree d sound m n c e r in
          bug_in-merged is n m mate.0 (k.0 ∙ mate.1) (ap (λ z. has z m) mate.2 ∙ sound.own m c e) q
      | false ↦ λ r h. shown-mate d is ns m c sound k.1 e q h
    ] refl h

-- The desk after the change: each bug as f makes it.
pub put-replaced : (d : Desk) (is : List SetImage) (next : ℕ) (ns : List ℕ) (new : List SetImage) (f : ℕ → Bug → Bug) → IsSound d
    → d.next ≡ next → AreSetsOf d is → AllKnown d is ns → TakesPlace is ns new → Makes d is ns new f
    → put d (record { images = new ++ others ns is; next = next }) ≡ each_bug d f
put-replaced d is next ns new f sound same sets known p makes =
    λ j. record { bug = λ m. at m (bug_in is m) refl j; tree = d.tree; next = sym same j }
  where
    kept : (m : ℕ) (b : Bug) → d.bug m ≡ Some b → has_any b.merged ns ≡ false → d.bug m ≡ option_map (f m) (d.bug m)
    kept m b e k = e ∙ ap Some (sym (makes.elsewhere m b e k)) ∙ sym (ap (option_map (f m)) e)

    unshown : (m : ℕ) → bug_in is m ≡ None → (o : Option Bug) → d.bug m ≡ o → d.bug m ≡ option_map (f m) (d.bug m)
    unshown m q None e = e ∙ sym (ap (option_map (f m)) e)
    unshown m q (Some c) e =
        elim (has_any c.merged ns) as (λ t. has_any c.merged ns ≡ t → d.bug m ≡ option_map (f m) (d.bug m))
        [ true ↦ λ k. absurd (shown-mate d is ns m c sound known e q k) | false ↦ λ k. kept m c e k ] refl

    in_others : (m : ℕ) → bug_in new m ≡ None
        → option_or (bug_in (new ++ others ns is) m) (d.bug m) ≡ option_or (bug_in (others ns is) m) (d.bug m)
    in_others m q = ap (λ (o : Option Bug). option_or o (d.bug m))
        (bug_in-append new (others ns is) m ∙ ap (λ (o : Option Bug). option_or o (bug_in (others ns is) m)) q)

    at : (m : ℕ) (o : Option Bug) → bug_in is m ≡ o
        → option_or (bug_in (new ++ others ns is) m) (d.bug m) ≡ option_map (f m) (d.bug m)
    at m None q = ap (λ (o : Option Bug). option_or o (d.bug m)) (none-replaced is ns new p m q) ∙ unshown m q (d.bug m) refl
    at m (Some b) q =
        let e : d.bug m ≡ Some b = shown d is sets m b q in
        elim (has_any b.merged ns) as (λ t. has_any b.merged ns ≡ t
        → option_or (bug_in (new ++ others ns is) m) (d.bug m) ≡ option_map (f m) (d.bug m)) [
          | true ↦ λ k.
              ap (λ (o : Option Bug). option_or o (d.bug m))
              (bug_in-append new (others ns is) m
              ∙ ap (λ (o : Option Bug). option_or o (bug_in (others ns is) m)) (makes.inside m b q k))
              ∙ sym (ap (option_map (f m)) e)
          | false ↦ λ k. in_others m (p.outside m b q k)
              ∙ ap (λ (o : Option Bug). option_or o (d.bug m)) (others-kept ns is m b q k) ∙ sym e ∙ kept m b e k
        ] refl

-- ---- one set with other fields

-- a member with another title and another submitter, where they are given
abbrev pub own_after : (ℕ → Option (List ℕ)) → (ℕ → Option (List ℕ)) → Member → Member
own_after title who m = record m { title = unwrap_or (title m.number) m.title; submitter = unwrap_or (who m.number) m.submitter }

numbers_of-own_after : (title who : ℕ → Option (List ℕ)) (ms : List Member)
    → numbers_of (map (own_after title who) ms) ≡ numbers_of ms
numbers_of-own_after title who [] = refl
numbers_of-own_after title who (m ∷ ms) = ap (λ ns. m.number ∷ ns) (numbers_of-own_after title who ms)

member_at-own_after : (title who : ℕ → Option (List ℕ)) (ms : List Member) (n : ℕ)
    → member_at (map (own_after title who) ms) n ≡ option_map (own_after title who) (member_at ms n)
member_at-own_after title who [] n = refl
member_at-own_after title who (m ∷ ms) n =
    elim (eqb m.number n) as (λ t. cond t (Some (own_after title who m)) (member_at (map (own_after title who) ms) n)
    ≡ option_map (own_after title who) (cond t (Some m) (member_at ms n)))
    [ true ↦ refl | false ↦ member_at-own_after title who ms n ]

-- the image of a bug's set with other fields
abbrev pub image_after : SetImage → (Shared → Shared) → (ℕ → Option (List ℕ)) → (Shared → ℕ → Option (List ℕ)) → SetImage
image_after i f title who = record { shared = f i.shared; members = map (own_after title (who i.shared)) i.members }

-- the change of a bug that is merged with n
abbrev pub bug_after : ℕ → (Shared → Shared) → (ℕ → Option (List ℕ)) → (Shared → ℕ → Option (List ℕ)) → ℕ → Bug → Bug
bug_after n f title who m b = record b {
  shared = cond (has b.merged n) (f b.shared) b.shared;
  title = cond (has b.merged n) (unwrap_or (title m) b.title) b.title;
  submitter = cond (has b.merged n) (unwrap_or (who b.shared m) b.submitter) b.submitter;
}

pub one_of : (xs : List ℕ) (n : ℕ) → has_any xs (n ∷ []) ≡ has xs n
one_of xs n = elim (has xs n) as (λ t. (t || false) ≡ t) [ true ↦ refl | false ↦ refl ]

shows-after : (i : SetImage) (f : Shared → Shared) (title : ℕ → Option (List ℕ)) (who : Shared → ℕ → Option (List ℕ)) (m : ℕ)
    (o : Option Member) → member_at i.members m ≡ o
    → bug_in (image_after i f title who ∷ []) m
    ≡ option_or (option_map (bug_of (image_after i f title who)) (option_map (own_after title (who i.shared)) o)) None
shows-after i f title who m o q =
    ap (λ (z : Option Member). option_or (option_map (bug_of (image_after i f title who)) z) None)
    (member_at-own_after title (who i.shared) i.members m ∙ ap (option_map (own_after title (who i.shared))) q)

-- it stands in the place of the old one
pub set-takes_place : (is : List SetImage) (n : ℕ) (i : SetImage) (f : Shared → Shared) (title : ℕ → Option (List ℕ))
    (who : Shared → ℕ → Option (List ℕ)) → AreApart is → image_with is n ≡ Some i
    → TakesPlace is (n ∷ []) (image_after i f title who ∷ [])
set-takes_place is n i f title who a h = record {
  inside = λ m b q k none.
      let own = image_with-bug is n m i b a h q (sym (one_of b.merged n) ∙ k) in
      none-some _ (sym none ∙ shows-after i f title who m (Some own.0) own.1);
  outside = λ m b q k. lacks m b q (sym (one_of b.merged n) ∙ k) (member_at i.members m) refl;
  nowhere = λ m q. shows-after i f title who m None (image_with-lacks is n m i h q);
  apart = ((λ m k. refl), tt);
  members = (
    (λ e. false≢true
        (ap (λ ms. has (numbers_of ms) n) (sym e) ∙ ap (λ ns. has ns n) (numbers_of-own_after title (who i.shared) i.members)
        ∙ image_with-has is n i h)),
    tt,
  );
}
  where
    lacks : (m : ℕ) (b : Bug) → bug_in is m ≡ Some b → has b.merged n ≡ false → (o : Option Member) → member_at i.members m ≡ o
        → bug_in (image_after i f title who ∷ []) m ≡ None
    lacks m b q k None e = shows-after i f title who m None e
    lacks m b q k (Some x) e =
        absurd (false≢true (sym k
        ∙ ap (λ (z : Bug). has z.merged n) (same_value b (bug_of i x) q (image_with-member is n m i x a h e))
        ∙ image_with-has is n i h))

pub set-makes : (d : Desk) (is : List SetImage) (n : ℕ) (i : SetImage) (f : Shared → Shared) (title : ℕ → Option (List ℕ))
    (who : Shared → ℕ → Option (List ℕ)) → AreApart is → image_with is n ≡ Some i
    → Makes d is (n ∷ []) (image_after i f title who ∷ []) (bug_after n f title who)
set-makes d is n i f title who a h = record {
  inside = λ m b q k.
      let own = image_with-bug is n m i b a h q (sym (one_of b.merged n) ∙ k) in
      shows-after i f title who m (Some own.0) own.1 ∙ whole m own.0 (image_with-member is n m i own.0 a h own.1) own.1
      ∙ ap (λ (z : Bug). Some (bug_after n f title who m z)) (sym own.2);
  elsewhere = λ m b q k. ap (λ t. record b {
    shared = cond t (f b.shared) b.shared;
    title = cond t (unwrap_or (title m) b.title) b.title;
    submitter = cond t (unwrap_or (who b.shared m) b.submitter) b.submitter;
  }) (sym (one_of b.merged n) ∙ k);
}
  where
    own : has (numbers_of i.members) n ≡ true
    own = image_with-has is n i h

    whole : (m : ℕ) (x : Member) → bug_in is m ≡ Some (bug_of i x) → member_at i.members m ≡ Some x
        → Some (bug_of (image_after i f title who) (own_after title (who i.shared) x))
        ≡ Some (bug_after n f title who m (bug_of i x))
    whole m x q e = λ j. Some (record (bug_of i x) {
      shared = cond (sym own j) (f i.shared) i.shared;
      title = cond (sym own j) (unwrap_or (title (number-member i.members m x e j)) x.title) x.title;
      submitter = cond (sym own j) (unwrap_or (who i.shared (number-member i.members m x e j)) x.submitter) x.submitter;
      merged = numbers_of-own_after title (who i.shared) i.members j;
    })
