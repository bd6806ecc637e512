-- Images gathered one after another stay sets of the desk, and apart.
use Rattle.std.proofs.Common.{◌≡◌, ◌<◌, ◌+◌, ℕ, Bool, true, false, ◌||◌, eqb, List, [], ◌∷◌, ◌++◌, take, drop, get_or, length}
use Rattle.std.proofs.Common.{arith, cond, Option, Some, None, sym, refl, ap, ◌∙◌, subst}
use Rattle.std.specs.BTreeSet.{BTreeSet, contains}
use Rattle.std.specs.Ordering.{is_eq, nat_cmp}
use Rattle.std.specs.Prelude.{option_map, if◌then◌else◌}
use Rattle.std.specs.Option.{option_or}
use Rattle.std.proofs.lemmas.Bool.{false≢true, eqb-true, or_parts}
use Rattle.std.proofs.lemmas.List.{take_more, at_drop_more}
use Rattle.std.proofs.lemmas.Bool.Decides.{nat_tests}
use Rattle.bug_record.specs.Sets.{has, Each}
use Rattle.bug_record.specs.Desk.{Desk}
use Rattle.bug_record.specs.Images.{numbers_of, member_at, bug_of, bug_in, AreApart, IsSetOf, AreSetsOf}
use Rattle.bug_record.specs.Plans.{AllKnown}
use Rattle.bug_record.specs.declared.bug.Bug.{Bug}
use Rattle.bug_record.specs.declared.bug.Member.{Member}
use Rattle.bug_record.specs.declared.bug.SetImage.{SetImage}
use Rattle.bug_images.proofs.ImageLemmas.{none_left, none_right, none_map, has-member_none, no_member-has, bug_in-append}
use Rattle.bug_images.proofs.ImageLemmas.{bug_in-merged, shown}
use Rattle.store_contract.specs.Store.{IsImageOf}
use Rattle.message_plans.specs.Images.{is_gathered, meets, Lists, Gather}

-- a member that is a bug of the desk
member_shown : (d : Desk) (i : SetImage) (ms : List Member) (n : ℕ) → has (numbers_of ms) n ≡ true
    → Each (λ m. d.bug m.number ≡ Some (bug_of i m)) ms → option_or (option_map (bug_of i) (member_at ms n)) None ≡ d.bug n
member_shown d i [] n h e = absurd (false≢true h)
member_shown d i (m ∷ ms) n h e =
    elim (eqb m.number n) as (λ t. eqb m.number n ≡ t
    → option_or (option_map (bug_of i) (if t then Some m else member_at ms n)) None ≡ d.bug n) [
      | true ↦ λ q. sym e.0 ∙ ap d.bug (eqb-true m.number n q)
      | false ↦ λ q. member_shown d i ms n (sym (ap (λ t. t || has (numbers_of ms) n) q) ∙ h) e.1
    ] refl

-- what the test of images says
not_gathered : (images : List SetImage) (n : ℕ) → is_gathered images n ≡ false → bug_in images n ≡ None
not_gathered [] n h = refl
not_gathered (i ∷ is) n h =
    let p = or_parts (has (numbers_of i.members) n) (is_gathered is n) h in
    ap (λ (o : Option Member). option_or (option_map (bug_of i) o) (bug_in is n)) (no_member-has i.members n p.0)
    ∙ not_gathered is n p.1

gathered : (images : List SetImage) (n : ℕ) → is_gathered images n ≡ true → bug_in images n ≡ None → ⊥
gathered [] n h e = false≢true h
gathered (i ∷ is) n h e =
    elim (has (numbers_of i.members) n) as (λ t. has (numbers_of i.members) n ≡ t → (t || is_gathered is n) ≡ true → ⊥) [
      | true ↦ λ q h. false≢true
          (sym (has-member_none i.members n
          (none_map (bug_of i) (member_at i.members n)
          (none_left (option_map (bug_of i) (member_at i.members n)) (bug_in is n) e))) ∙ q)
      | false ↦ λ q h. gathered is n h (none_right (option_map (bug_of i) (member_at i.members n)) (bug_in is n) e)
    ] refl h

shown_as_there : (d : Desk) (images : List SetImage) (n : ℕ) → AreSetsOf d images → is_gathered images n ≡ true
    → bug_in images n ≡ d.bug n
shown_as_there d images n sets h = cases (bug_in images n) refl
  where
    cases : (o : Option Bug) → bug_in images n ≡ o → bug_in images n ≡ d.bug n
    cases None e = absurd (gathered images n h e)
    cases (Some b) e = e ∙ sym (shown d images sets n b e)

-- members that meet no image are in none
unmet : (images : List SetImage) (ms : List Member) → meets (is_gathered images) ms ≡ false → (k : ℕ)
    → has (numbers_of ms) k ≡ true → bug_in images k ≡ None
unmet images [] h k e = absurd (false≢true e)
unmet images (m ∷ ms) h k e =
    let p = or_parts (is_gathered images m.number) (meets (is_gathered images) ms) h in
    elim (eqb m.number k) as (λ t. eqb m.number k ≡ t → (t || has (numbers_of ms) k) ≡ true → bug_in images k ≡ None) [
      | true ↦ λ q e. not_gathered images k (ap (is_gathered images) (sym (eqb-true m.number k q)) ∙ p.0)
      | false ↦ λ q e. unmet images ms p.1 k e
    ] refl e

-- sets of one desk that share a bug are the same: a bug that is in no image is in none that meets
-- one of them
met : (d : Desk) (images : List SetImage) (i : SetImage) (n : ℕ) → AreSetsOf d images → bug_in images n ≡ None
    → has (numbers_of i.members) n ≡ true
    → (ms : List Member) → Each (λ m. d.bug m.number ≡ Some (bug_of i m)) ms → meets (is_gathered images) ms ≡ true → ⊥
met d images i n sets none own [] each h = false≢true h
met d images i n sets none own (m ∷ ms) each h =
    elim (is_gathered images m.number) as (λ t. is_gathered images m.number ≡ t → (t || meets (is_gathered images) ms) ≡ true
    → ⊥) [
      | true ↦ λ q h. bug_in-merged images m.number n (bug_of i m) (shown_as_there d images m.number sets q ∙ each.0) own none
      | false ↦ λ q h. met d images i n sets none own ms each.1 h
    ] refl h

-- one image more
sets-more : (d : Desk) (images : List SetImage) (i : SetImage) → AreSetsOf d images → IsSetOf d i → AreSetsOf d (images ++ i ∷ [])
sets-more d [] i h k = (k, tt)
sets-more d (j ∷ images) i h k = (h.0, sets-more d images i h.1 k)

none_with : (images : List SetImage) (i : SetImage) (n : ℕ) → bug_in images n ≡ None → member_at i.members n ≡ None
    → bug_in (images ++ i ∷ []) n ≡ None
none_with images i n e f =
    bug_in-append images (i ∷ []) n ∙ ap (λ (o : Option Bug). option_or o (bug_in (i ∷ []) n)) e
    ∙ ap (λ (o : Option Member). option_or (option_map (bug_of i) o) None) f

pub apart-more : (images : List SetImage) (i : SetImage) → AreApart images → meets (is_gathered images) i.members ≡ false
    → AreApart (images ++ i ∷ [])
apart-more images i a h = more images a (unmet images i.members h)
  where
    lacks : (j : SetImage) (is : List SetImage) (n : ℕ)
        → ((k : ℕ) → has (numbers_of i.members) k ≡ true → bug_in (j ∷ is) k ≡ None) → has (numbers_of j.members) n ≡ true
        → (t : Bool) → has (numbers_of i.members) n ≡ t → member_at i.members n ≡ None
    lacks j is n u own false q = no_member-has i.members n q
    lacks j is n u own true q =
        absurd (false≢true (sym
        (has-member_none j.members n
        (none_map (bug_of j) (member_at j.members n)
        (none_left (option_map (bug_of j) (member_at j.members n)) (bug_in is n) (u n q)))) ∙ own))

    more : (is : List SetImage) → AreApart is → ((k : ℕ) → has (numbers_of i.members) k ≡ true → bug_in is k ≡ None)
        → AreApart (is ++ i ∷ [])
    more [] a u = (λ n e. refl, tt)
    more (j ∷ is) a u = (
      λ n own. none_with is i n (a.0 n own) (lacks j is n u own (has (numbers_of i.members) n) refl),
      more is a.1 (λ k e. none_right (option_map (bug_of j) (member_at j.members k)) (bug_in is k) (u k e)),
    )

-- what an image more shows
shows-more : (d : Desk) (images : List SetImage) (i : SetImage) (m : ℕ) → IsSetOf d i → bug_in images m ≡ d.bug m
    → bug_in (images ++ i ∷ []) m ≡ d.bug m
shows-more d images i m merged h = bug_in-append images (i ∷ []) m ∙ cases (bug_in images m) refl (bug_in (i ∷ []) m) refl
  where
    cases : (o : Option Bug) → bug_in images m ≡ o → (p : Option Bug) → bug_in (i ∷ []) m ≡ p
        → option_or (bug_in images m) (bug_in (i ∷ []) m) ≡ d.bug m
    cases (Some b) e p q = ap (λ (o : Option Bug). option_or o (bug_in (i ∷ []) m)) e ∙ sym e ∙ h
    cases None e None q = ap (λ (o : Option Bug). option_or o (bug_in (i ∷ []) m)) e ∙ q ∙ sym e ∙ h
    cases None e (Some b) q =
        ap (λ (o : Option Bug). option_or o (bug_in (i ∷ []) m)) e ∙ q ∙ sym (shown d (i ∷ []) (merged, tt) m b q)

-- what is gathered for one bug: nothing, where it is in an image
pub gather-there : (d : Desk) (images : List SetImage) (n : ℕ) → is_gathered images n ≡ true → Gather d (n ∷ []) images images
gather-there d images n h = record { sets = λ b. b; known = λ b. (shown_as_there d images n b h, tt); stays = λ b m e. e }

-- nothing, where there is no such bug
pub gather-none : (d : Desk) (images : List SetImage) (n : ℕ) → is_gathered images n ≡ false → IsImageOf d n None
    → Gather d (n ∷ []) images images
gather-none d images n h none =
    record { sets = λ b. b; known = λ b. (not_gathered images n h ∙ sym none, tt); stays = λ b m e. e }

-- an image that meets the others is no set of this desk
pub gather-met : (d : Desk) (images : List SetImage) (n : ℕ) (i : SetImage) → is_gathered images n ≡ false
    → IsImageOf d n (Some i) → meets (is_gathered images) i.members ≡ true → Gather d (n ∷ []) images images
gather-met d images n i h is t = record {
  sets = λ b. b;
  known = λ b. absurd (met d images i n b (not_gathered images n h) is.0 i.members is.1 t);
  stays = λ b m e. e;
}

-- the image of its set
pub gather-one : (d : Desk) (images : List SetImage) (n : ℕ) (i : SetImage) → is_gathered images n ≡ false
    → IsImageOf d n (Some i) → Gather d (n ∷ []) images (images ++ i ∷ [])
gather-one d images n i h is = record {
  sets = λ b. sets-more d images i b is.1;
  known = λ b. (
    bug_in-append images (i ∷ []) n
        ∙ ap (λ (o : Option Bug). option_or o (bug_in (i ∷ []) n)) (not_gathered images n h)
        ∙ member_shown d i i.members n is.0 is.1,
    tt,
  );
  stays = λ b m e. shows-more d images i m is.1 e;
}

-- and for bugs after bugs
pub gather-both : (d : Desk) (ns ms : List ℕ) (first second third : List SetImage) → Gather d ns first second
    → Gather d ms second third → Gather d (ns ++ ms) first third
gather-both d ns ms first second third g h = record {
  sets = λ b. h.sets (g.sets b);
  known = λ b. all ns (g.known b) (h.stays (g.sets b)) (h.known (g.sets b));
  stays = λ b m e. h.stays (g.sets b) m (g.stays b m e);
}
  where
    all : (ns : List ℕ) → AllKnown d second ns → ((m : ℕ) → bug_in second m ≡ d.bug m → bug_in third m ≡ d.bug m)
        → AllKnown d third ms → AllKnown d third (ns ++ ms)
    all [] k stays l = l
    all (n ∷ ns) k stays l = (stays n k.0, all ns k.1 stays l)

-- a desk that is the same
pub gather-on : (d d' : Desk) (ns : List ℕ) (old new : List SetImage) → d' ≡ d → Gather d' ns old new → Gather d ns old new
gather-on d d' ns old new e g = subst (λ (z : Desk). Gather z ns old new) e g

-- one bug more of a list
pub gather-more : (d d' : Desk) (ns : List ℕ) (k : ℕ) (first second third : List SetImage) → k < length ns → d' ≡ d
    → Gather d (take k ns) first second → Gather d' (get_or ns k 0 ∷ []) second third → Gather d (take (k + 1) ns) first third
gather-more d d' ns k first second third l e g h =
    subst (λ ms. Gather d ms first third) (sym (take_more ns k 0 l))
    (gather-both d (take k ns) (get_or ns k 0 ∷ []) first second third g (gather-on d d' (get_or ns k 0 ∷ []) second third e h))

-- ---- the bugs of the images, kept beside them

or_after : (a b c : Bool) → (a || (b || c)) ≡ ((b || a) || c)
or_after true true c = refl
or_after true false c = refl
or_after false true c = refl
or_after false false c = refl

-- an image more
pub lists-more : (bugs new : ℕ → Bool) (images : List SetImage) (i : SetImage) → Lists bugs images
    → ((n : ℕ) → new n ≡ (has (numbers_of i.members) n || bugs n))
    → Lists new (images ++ i ∷ [])
lists-more bugs new images i l h n = h n ∙ ap (λ t. has (numbers_of i.members) n || t) (l n) ∙ more images
  where
    more : (is : List SetImage) → (has (numbers_of i.members) n || is_gathered is n) ≡ is_gathered (is ++ i ∷ []) n
    more [] = refl
    more (j ∷ is) = or_after (has (numbers_of i.members) n) (has (numbers_of j.members) n) (is_gathered is n)
        ∙ turn (has (numbers_of j.members) n) (more is)
      where
        turn : (b : Bool) → (has (numbers_of i.members) n || is_gathered is n) ≡ is_gathered (is ++ i ∷ []) n
            → ((b || has (numbers_of i.members) n) || is_gathered is n) ≡ (b || is_gathered (is ++ i ∷ []) n)
        turn true e = refl
        turn false e = e

pub meets-listed : (bugs : ℕ → Bool) (images : List SetImage) → Lists bugs images → (ms : List Member)
    → meets bugs ms ≡ meets (is_gathered images) ms
meets-listed bugs images l [] = refl
meets-listed bugs images l (m ∷ ms) =
    ap (λ t. t || meets bugs ms) (l m.number) ∙ ap (λ t. is_gathered images m.number || t) (meets-listed bugs images l ms)

-- a test of equal lists
pub meets-equal : (images listed : List SetImage) (ms members : List Member) (t : Bool) → listed ≡ images → members ≡ ms
    → t ≡ meets (is_gathered listed) members → t ≡ meets (is_gathered images) ms
meets-equal images listed ms members t e f h =
    h ∙ ap (λ (z : List SetImage). meets (is_gathered z) members) e
    ∙ ap (λ (z : List Member). meets (is_gathered images) z) f

-- a number more
pub number-more : (old new : BTreeSet ℕ) (ms : List Member) (k : ℕ) (m : Member) → k < length ms → m ≡ get_or ms k m
    → ((n : ℕ) → contains nat_cmp new n ≡ cond (is_eq (nat_cmp m.number n)) true (contains nat_cmp old n))
    → (n : ℕ) → (has (numbers_of (drop (k + 1) ms)) n || contains nat_cmp new n)
    ≡ (has (numbers_of (drop k ms)) n || contains nat_cmp old n)
number-more old new ms k m l e u n =
    ap (λ t. has (numbers_of (drop (k + 1) ms)) n || t)
    (u n ∙ ap (λ t. cond t true (contains nat_cmp old n)) (is_eq-same m.number n))
    ∙ moved (eqb m.number n) (has (numbers_of (drop (k + 1) ms)) n) (contains nat_cmp old n)
    ∙ ap (λ (z : Member). (eqb z.number n || has (numbers_of (drop (k + 1) ms)) n) || contains nat_cmp old n) e
    ∙ sym (ap (λ t. t || contains nat_cmp old n) (at_drop_more (λ (z : List Member). has (numbers_of z) n) ms k m l))
  where
    is_eq-same : (a b : ℕ) → is_eq (nat_cmp a b) ≡ eqb a b
    is_eq-same a b = grind (arith, nat_tests)

    moved : (t a b : Bool) → (a || cond t true b) ≡ ((t || a) || b)
    moved true true b = refl
    moved true false b = refl
    moved false a b = refl

-- an image more, of those whose bugs are listed
pub image-more : (bugs new : ℕ → Bool) (is : List SetImage) (k : ℕ) (i : SetImage) → k < length is → i ≡ get_or is k i
    → ((n : ℕ) → new n ≡ (has (numbers_of i.members) n || bugs n))
    → (n : ℕ) → (is_gathered (drop (k + 1) is) n || new n) ≡ (is_gathered (drop k is) n || bugs n)
image-more bugs new is k i l e h n =
    ap (λ t. is_gathered (drop (k + 1) is) n || t) (h n)
    ∙ or_after (is_gathered (drop (k + 1) is) n) (has (numbers_of i.members) n) (bugs n)
    ∙ ap (λ (z : SetImage). (has (numbers_of z.members) n || is_gathered (drop (k + 1) is) n) || bugs n) e
    ∙ sym (ap (λ t. t || bugs n) (at_drop_more (λ (z : List SetImage). is_gathered z n) is k i l))
