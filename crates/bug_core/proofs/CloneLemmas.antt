-- Copies of a bug.
use Rattle.std.proofs.Common.{◌≡◌, ◌<◌, ◌≤◌, ◌+◌, suc, zero, ℕ, Bool, true, false, cond, ◌||◌, eqb, List, [], ◌∷◌, ◌++◌, Option, Some, None}
use Rattle.std.proofs.Common.{Result, Ok, Err, sym, refl, ap, ◌∙◌, subst, arith, length}
use Rattle.std.specs.Prelude.{option_map, map, nat_lt, slice_get}
use Rattle.std.specs.Option.{option_or}
use Rattle.std.proofs.lemmas.Option.{none-some, same_Some}
use Rattle.std.proofs.lemmas.List.{map-append}
use Rattle.std.proofs.lemmas.Bool.{false≢true, eqb-true, eqb-false, ne_eqb, le-ltb, lt-ltb, false_from_ne_true}
use Rattle.bug_record.specs.Sets.{has, Each, numbers_below}
use Rattle.bug_record.specs.Desk.{Desk, IsSound}
use Rattle.bug_record.specs.Bugs.{with_new_bugs, at_bug, unless, first_of}
use Rattle.bug_record.specs.Words.{archived_refusal, bug_refusal, first_bug_refusal}
use Rattle.bug_record.specs.Clones.{merged_refusal, full_refusal, clone_of, cloned}
use Rattle.bug_record.specs.Images.{numbers_of, member_at, bug_of, bug_in, put, AreApart, HasMember, AreSetsOf, CoverSets, image_with}
use Rattle.bug_record.specs.Plans.{IsShownBy, CoverImages}
use Rattle.bug_record.specs.declared.bug.Bug.{Bug}
use Rattle.bug_record.specs.declared.bug.Shared.{Shared}
use Rattle.bug_record.specs.declared.bug.Member.{Member}
use Rattle.bug_record.specs.declared.bug.SetImage.{SetImage}
use Rattle.bug_record.specs.declared.command.Change.{Change}
use Rattle.bug_record.specs.declared.command.PlanFault.TheVariants.{Refused}
use Rattle.bug_record.specs.declared.command.Refusal.{Refusal}
use Rattle.bug_record.specs.declared.command.Refusal.TheVariants.{NoBug, Merged, Full}
use Rattle.bug_core.specs.Others.{others}
use Rattle.bug_core.specs.Clones.{clone_image, clone_images}
use Rattle.bug_core.specs.Planned.{IsPlanned, IsPlannedOf}
use Rattle.bug_core.specs.Refused.{IsRefusedAs, IsRefusalOfPlan}
use Rattle.bug_images.proofs.ImageLemmas.{same_value, shown, bug_in-append, bug_in-merged}
use Rattle.bug_images.proofs.ImageLemmas.{image_with-shows, image_with-none, image_with-has, image_with-member}
use Rattle.bug_core.proofs.OtherLemmas.{others-none, others-kept, others-apart, others-members}
use Rattle.bug_core.proofs.ReplaceLemmas.{apart-append, each-append}
use Rattle.bug_fields.proofs.AddedLemmas.{is_new, new-parts, new-from, new-below, new-above, none-beyond, AreGoodNew, sound-added}
use Rattle.bug_core.proofs.PlanLemmas.{Steps, planned-refused, own-archived}

-- the bug that a copy shows
abbrev pub copied : Shared → Member → ℕ → Bug
copied f x n = bug_of (clone_image f x n) (record x { number = n })

-- the copies one by one
pub one_more : (f : Shared) (x : Member) (next many : ℕ)
    → clone_images f x next (suc many) ≡ clone_images f x next many ++ clone_image f x (next + many) ∷ []
unfolding numbers_below
one_more f x next many = map-append (λ k. clone_image f x (next + k)) (numbers_below many) (many ∷ [])

pub none_yet : (f : Shared) (x : Member) (next : ℕ) → clone_images f x next 0 ≡ []
unfolding numbers_below
none_yet f x next = refl

-- the copies show a bug for each new number
pub bug_in-clones : (f : Shared) (x : Member) (next many m : ℕ)
    → bug_in (clone_images f x next many) m ≡ cond (is_new next many m) (Some (copied f x m)) None
bug_in-clones f x next zero m =
    ap (λ is. bug_in is m) (none_yet f x next)
    ∙ sym (ap (λ t. cond t (Some (copied f x m)) None) (false_from_ne_true (is_new next 0 m) (λ e.
    let p = new-parts next 0 m e in absurd (omega (arith, p.0, p.1)))))
bug_in-clones f x next (suc many) m =
    ap (λ is. bug_in is m) (one_more f x next many)
    ∙ bug_in-append (clone_images f x next many) (clone_image f x (next + many) ∷ []) m
    ∙ ap (λ o. option_or o (bug_in (clone_image f x (next + many) ∷ []) m)) (bug_in-clones f x next many m)
    ∙ last (eqb (next + many) m) refl
  where
    either : (t : Bool) → option_or (cond t (Some (copied f x m)) None) None ≡ cond t (Some (copied f x m)) None
    either true = refl
    either false = refl

    same_new : (next + many ≡ m → ⊥) → is_new next many m ≡ is_new next (suc many) m
    same_new other =
        elim (is_new next (suc many) m) as (λ t. is_new next (suc many) m ≡ t → is_new next many m ≡ t) [
          | true ↦ λ e. let p = new-parts next (suc many) m e in
              new-from next many m p.0 (omega (arith, p.1, other))
          | false ↦ λ e. false_from_ne_true (is_new next many m) (λ k.
              let p = new-parts next many m k in
              false≢true (sym e ∙ new-from next (suc many) m p.0 (omega (arith, p.1))))
        ] refl

    last : (t : Bool) → eqb (next + many) m ≡ t
        → option_or (cond (is_new next many m) (Some (copied f x m)) None) (bug_in (clone_image f x (next + many) ∷ []) m)
        ≡ cond (is_new next (suc many) m) (Some (copied f x m)) None
    last true e =
        let same : next + many ≡ m = eqb-true (next + many) m e in
        (λ j. option_or (cond (new-above next many m (omega (arith, same)) j) (Some (copied f x m)) None)
        (option_or (option_map (bug_of (clone_image f x (next + many))) (cond (e j) (Some (record x { number = next + many })) None)) None))
        ∙ ap (λ n. Some (copied f x n)) same
        ∙ sym (ap (λ t. cond t (Some (copied f x m)) None) (new-from next (suc many) m (omega (arith, same)) (omega (arith, same))))
    last false e =
        let other : next + many ≡ m → ⊥ = eqb-false (next + many) m e in
        (λ j. option_or (cond (is_new next many m) (Some (copied f x m)) None)
        (option_or (option_map (bug_of (clone_image f x (next + many))) (cond (e j) (Some (record x { number = next + many })) None)) None))
        ∙ either (is_new next many m)
        ∙ ap (λ t. cond t (Some (copied f x m)) None) (same_new other)

-- they are disjoint, and have a member each
apart-clones : (f : Shared) (x : Member) (next many : ℕ) → AreApart (clone_images f x next many)
apart-clones f x next zero = subst AreApart (sym (none_yet f x next)) tt
apart-clones f x next (suc many) =
    subst AreApart (sym (one_more f x next many))
    (apart-append (clone_images f x next many) (clone_image f x (next + many) ∷ []) (apart-clones f x next many)
    ((λ m k. refl), tt) (λ m k. clear m k (is_new next many m) refl))
  where
    clear : (m : ℕ) → (bug_in (clone_images f x next many) m ≡ None → ⊥) → (t : Bool) → is_new next many m ≡ t
        → bug_in (clone_image f x (next + many) ∷ []) m ≡ None
    clear m k true e =
        let p = new-parts next many m e in
        ap (λ t. option_or (option_map (bug_of (clone_image f x (next + many))) (cond t (Some (record x { number = next + many })) None)) None)
        (ne_eqb (next + many) m (λ same. absurd (omega (arith, p.1, same))))
    clear m k false e =
        absurd (k (bug_in-clones f x next many m ∙ ap (λ t. cond t (Some (copied f x m)) None) e))

members-clones : (f : Shared) (x : Member) (next many : ℕ) → Each HasMember (clone_images f x next many)
members-clones f x next many = over (numbers_below many)
  where
    cons_nil : (n : Member) → n ∷ [] ≡ [] → ⊥
    cons_nil n q = cc

    over : (ns : List ℕ) → Each HasMember (map (λ k. clone_image f x (next + k)) ns)
    over [] = tt
    over (n ∷ ns) = (cons_nil (record x { number = next + n }), over ns)

-- ---- the copies, and the images that were handed in

abbrev pub with_clones : Shared → Member → ℕ → ℕ → List SetImage → List SetImage
with_clones f x next many is = clone_images f x next many ++ others [] is

-- what they show of a number that is new, and of one that is not
shows-new : (f : Shared) (x : Member) (next many : ℕ) (is : List SetImage) (m : ℕ) → is_new next many m ≡ true
    → bug_in (with_clones f x next many is) m ≡ Some (copied f x m)
shows-new f x next many is m e =
    bug_in-append (clone_images f x next many) (others [] is) m
    ∙ ap (λ o. option_or o (bug_in (others [] is) m))
    (bug_in-clones f x next many m ∙ ap (λ t. cond t (Some (copied f x m)) None) e)

shows-old : (f : Shared) (x : Member) (next many : ℕ) (is : List SetImage) (m : ℕ) → is_new next many m ≡ false
    → bug_in (with_clones f x next many is) m ≡ bug_in is m
shows-old f x next many is m e =
    bug_in-append (clone_images f x next many) (others [] is) m
    ∙ ap (λ o. option_or o (bug_in (others [] is) m))
    (bug_in-clones f x next many m ∙ ap (λ t. cond t (Some (copied f x m)) None) e)
    ∙ all (bug_in is m) refl
  where
    all : (o : Option Bug) → bug_in is m ≡ o → bug_in (others [] is) m ≡ bug_in is m
    all None q = others-none [] is m q ∙ sym q
    all (Some b) q = others-kept [] is m b q refl ∙ sym q

-- they show each bug that was shown
covers-clones : (f : Shared) (x : Member) (next many : ℕ) (is : List SetImage) → CoverImages is (with_clones f x next many is)
covers-clones f x next many is m h = cases (is_new next many m) refl
  where
    cases : (t : Bool) → is_new next many m ≡ t → bug_in is m ≡ None
    cases true e = absurd (none-some (copied f x m) (sym h ∙ shows-new f x next many is m e))
    cases false e = sym (shows-old f x next many is m e) ∙ h

-- a bug that the images of a sound desk show has no new number
shown-old : (d : Desk) (is : List SetImage) (many m : ℕ) (b : Bug) → IsSound d → AreSetsOf d is → bug_in is m ≡ Some b
    → is_new d.next many m ≡ false
shown-old d is many m b sound sets e = new-below d.next many m (sound.in_range m b (shown d is sets m b e)).1

-- the images are disjoint, and bring in no bug of the desk
apart-with : (f : Shared) (x : Member) (many : ℕ) (d : Desk) (is : List SetImage) → IsSound d → AreSetsOf d is → AreApart is
    → AreApart (with_clones f x d.next many is)
apart-with f x many d is sound sets a =
    apart-append (clone_images f x d.next many) (others [] is) (apart-clones f x d.next many) (others-apart [] is a)
    (λ m k. others-none [] is m (clear m k (bug_in is m) refl))
  where
    clear : (m : ℕ) → (bug_in (clone_images f x d.next many) m ≡ None → ⊥) → (o : Option Bug) → bug_in is m ≡ o → o ≡ None
    clear m k None e = refl
    clear m k (Some b) e = absurd (k (bug_in-clones f x d.next many m
        ∙ ap (λ t. cond t (Some (copied f x m)) None) (shown-old d is many m b sound sets e)))

brings-clones : (f : Shared) (x : Member) (many : ℕ) (d : Desk) (is : List SetImage) (m : ℕ) (b : Bug) → IsSound d
    → bug_in is m ≡ None → bug_in (with_clones f x d.next many is) m ≡ Some b → d.bug m ≡ None
brings-clones f x many d is m b sound none h = cases (is_new d.next many m) refl
  where
    cases : (t : Bool) → is_new d.next many m ≡ t → d.bug m ≡ None
    cases true e = none-beyond d m sound (new-parts d.next many m e).0
    cases false e = absurd (none-some b (sym none ∙ sym (shows-old f x d.next many is m e) ∙ h))

-- they cover whole sets
whole-clones : (f : Shared) (x : Member) (many : ℕ) (d : Desk) (is : List SetImage) → IsSound d → AreSetsOf d is
    → CoverSets d (with_clones f x d.next many is)
whole-clones f x many d is sound sets n m b h k q e =
    cases (bug_in is n) refl
  where
    old : is_new d.next many n ≡ false
    old = new-below d.next many n (sound.in_range n b h).1

    cases : (o : Option Bug) → bug_in is n ≡ o → ⊥
    cases None r = k (shows-old f x d.next many is n old ∙ r)
    cases (Some c) r =
        bug_in-merged is n m c r (ap (λ (z : Bug). has z.merged m) (same_value c b (shown d is sets n c r) h) ∙ q)
        (covers-clones f x d.next many is m e)

-- the desk after the change has the new bugs
put-clones : (f : Shared) (x : Member) (many : ℕ) (d : Desk) (is : List SetImage) → AreSetsOf d is
    → put d (record { images = with_clones f x d.next many is; next = d.next + many }) ≡ with_new_bugs d (copied f x) many
put-clones f x many d is sets = λ j. record { bug = λ m. at m (is_new d.next many m) refl j; tree = d.tree; next = d.next + many }
  where
    stays : (m : ℕ) (o : Option Bug) → bug_in is m ≡ o → option_or o (d.bug m) ≡ d.bug m
    stays m None e = refl
    stays m (Some b) e = sym (shown d is sets m b e)

    at : (m : ℕ) (t : Bool) → is_new d.next many m ≡ t
        → option_or (bug_in (with_clones f x d.next many is) m) (d.bug m)
        ≡ cond (is_new d.next many m) (Some (copied f x m)) (d.bug m)
    at m true e =
        ap (λ o. option_or o (d.bug m)) (shows-new f x d.next many is m e)
        ∙ sym (ap (λ z. cond z (Some (copied f x m)) (d.bug m)) e)
    at m false e =
        ap (λ o. option_or o (d.bug m)) (shows-old f x d.next many is m e) ∙ stays m (bug_in is m) refl
        ∙ sym (ap (λ z. cond z (Some (copied f x m)) (d.bug m)) e)

-- copies of a bug of a sound desk are good new bugs
good-clones : (d : Desk) (n : ℕ) (b : Bug) → IsSound d → d.bug n ≡ Some b → AreGoodNew d (clone_of b)
good-clones d n b sound h = record {
  alone = λ m. refl;
  texts = λ m. let t = sound.texts n b h in record { title = t.title; submitter = t.submitter; shared = t.shared };
  blockers = λ m l.
      let g = sound.blockers n b h in record {
        ascending = g.ascending;
        there = g.there;
        outside = λ k w. ap (λ t. t || false)
            (ne_eqb m k (λ same. g.there k w (none-beyond d k sound (omega (arith, l, same)))));
      };
}

-- ---- the plan

-- the step of the command, and it by what is known of the bug
abbrev clone_step : ℕ → List ℕ → Desk → Result Desk Refusal
clone_step n ks d = unless (first_bug_refusal false d.bug (n ∷ [])) (cloned (λ _. None) d n ks)

abbrev own_refusal : ℕ → List ℕ → ℕ → ℕ → Option Refusal
own_refusal n merged next many = first_of (merged_refusal n merged ∷ None ∷ full_refusal next many ∷ [])

abbrev by_bug : Desk → ℕ → List ℕ → ℕ → Option Bug → Result Desk Refusal
by_bug d n ks next o =
    unless (option_or (bug_refusal false o n) None)
    (at_bug o n (λ b. unless (own_refusal n b.merged next (length ks)) (Ok (with_new_bugs d (clone_of b) (length ks)))))

steps-clone : (is : List SetImage) (next n : ℕ) (ks : List ℕ) (i : SetImage) (x : Member) → bug_in is n ≡ Some (bug_of i x)
    → Steps (n ∷ []) (clone_step n ks) is next (λ d. unless (option_or (archived_refusal false n i.shared) None)
    (unless (own_refusal n (numbers_of i.members) next (length ks)) (Ok (with_new_bugs d (clone_of (bug_of i x)) (length ks)))))
steps-clone is next n ks i x h d e k = λ j. by_bug d n ks (e j) ((sym k.0 ∙ h) j)

pub clone-no_bug : (is : List SetImage) (next n : ℕ) (ks : List ℕ) → image_with is n ≡ None
    → IsPlannedOf (n ∷ []) (λ d. cloned (λ _. None) d n ks) is next (Err (Refused (NoBug n)))
clone-no_bug is next n ks h =
    planned-refused (n ∷ []) (clone_step n ks) is next (NoBug n) tt
    (λ d e k. ap (by_bug d n ks d.next) (sym k.0 ∙ image_with-none is n h))

pub clone-archived : (is : List SetImage) (next n : ℕ) (ks : List ℕ) (i : SetImage) (refusal : Refusal) → image_with is n ≡ Some i
    → archived_refusal false n i.shared ≡ Some refusal
    → IsPlannedOf (n ∷ []) (λ d. cloned (λ _. None) d n ks) is next (Err (Refused refusal))
clone-archived is next n ks i refusal h r =
    let b = image_with-shows is n i h in
    planned-refused (n ∷ []) (clone_step n ks) is next refusal (own-archived false n i.shared refusal r)
    (λ d e k. steps-clone is next n ks i b.0 b.1 d e k
    ∙ ap (λ (o : Option Refusal). unless (option_or o None) (unless (own_refusal n (numbers_of i.members) next (length ks))
    (Ok (with_new_bugs d (clone_of (bug_of i b.0)) (length ks))))) r)

-- a refusal of its own
clone-refused : (is : List SetImage) (next n : ℕ) (ks : List ℕ) (i : SetImage) (refusal : Refusal) → image_with is n ≡ Some i
    → archived_refusal false n i.shared ≡ None → own_refusal n (numbers_of i.members) next (length ks) ≡ Some refusal
    → IsRefusalOfPlan refusal → IsPlannedOf (n ∷ []) (λ d. cloned (λ _. None) d n ks) is next (Err (Refused refusal))
clone-refused is next n ks i refusal h r q own =
    let b = image_with-shows is n i h in
    planned-refused (n ∷ []) (clone_step n ks) is next refusal own
    (λ d e k. steps-clone is next n ks i b.0 b.1 d e k
    ∙ (λ j. unless (option_or (r j) None) (unless (q j) (Ok (with_new_bugs d (clone_of (bug_of i b.0)) (length ks))))))

length-numbers : (ms : List Member) → length (numbers_of ms) ≡ length ms
length-numbers [] = refl
length-numbers (m ∷ ms) = ap suc (length-numbers ms)

pub clone-merged : (is : List SetImage) (next n : ℕ) (ks : List ℕ) (i : SetImage) → image_with is n ≡ Some i
    → archived_refusal false n i.shared ≡ None → 1 < length i.members
    → IsPlannedOf (n ∷ []) (λ d. cloned (λ _. None) d n ks) is next (Err (Refused (Merged n)))
clone-merged is next n ks i h r many =
    clone-refused is next n ks i (Merged n) h r
    (ap (λ t. option_or (cond t (Some (Merged n)) None) (option_or (full_refusal next (length ks)) None))
    (ap (nat_lt 1) (length-numbers i.members) ∙ lt-ltb 1 (length i.members) many)) tt

-- a bug by itself
alone : (n : ℕ) (i : SetImage) → length i.members ≤ 1 → merged_refusal n (numbers_of i.members) ≡ None
alone n i few =
    ap (λ t. cond t (Some (Merged n)) None) (ap (nat_lt 1) (length-numbers i.members) ∙ le-ltb 1 (length i.members) few)

pub clone-full : (is : List SetImage) (next n : ℕ) (ks : List ℕ) (i : SetImage) → image_with is n ≡ Some i
    → archived_refusal false n i.shared ≡ None → length i.members ≤ 1 → nat_lt 1000000000 (next + length ks) ≡ true
    → IsPlannedOf (n ∷ []) (λ d. cloned (λ _. None) d n ks) is next (Err (Refused Full))
clone-full is next n ks i h r few full =
    clone-refused is next n ks i Full h r
    (λ j. option_or (alone n i few j) (option_or (cond (full j) (Some Full) None) None)) tt

-- the only member is the bug
own_member : (n : ℕ) (y : Member) → has (numbers_of (y ∷ [])) n ≡ true → member_at (y ∷ []) n ≡ Some y
own_member n y h = ap (λ t. cond t (Some y) None) (or_first (eqb y.number n) h)
  where
    or_first : (t : Bool) → (t || false) ≡ true → t ≡ true
    or_first true e = refl
    or_first false e = e

-- the only member of a list
pub only_first : (ms : List Member) (y : Member) → slice_get ms 0 ≡ Some y → length ms ≤ 1 → ms ≡ y ∷ []
only_first [] y h few = absurd (none-some y h)
only_first (m ∷ []) y h few = ap (λ z. z ∷ []) (same_Some _ _ h)
only_first (m ∷ k ∷ ms) y h few = absurd (omega (arith, few))

-- an image in which a bug was found has a first member
pub some_first : (is : List SetImage) (n : ℕ) (i : SetImage) → image_with is n ≡ Some i → (ms : List Member) → ms ≡ i.members
    → slice_get ms 0 ≡ None → ⊥
some_first is n i h [] e none = false≢true (ap (λ ms. has (numbers_of ms) n) e ∙ image_with-has is n i h)
some_first is n i h (m ∷ ms) e none = none-some m (sym none)

pub clone-done : (is : List SetImage) (next n : ℕ) (ks : List ℕ) (i : SetImage) (y : Member) → AreApart is
    → image_with is n ≡ Some i → archived_refusal false n i.shared ≡ None → i.members ≡ y ∷ []
    → next + length ks ≤ 1000000000 → (change : Change) → change.images ≡ with_clones i.shared y next (length ks) is
    → change.next ≡ next + length ks → IsPlannedOf (n ∷ []) (λ d. cloned (λ _. None) d n ks) is next (Ok change)
clone-done is next n ks i y a h r only few change same last =
    subst (λ (z : Change). IsPlanned (n ∷ []) (clone_step n ks) is next (Ok z)) (sym whole) (record {
      right = λ d sh. (steps d sh.next_is sh.known ∙ ap Ok (sym (moved d sh.next_is sh.sets)), sound d sh);
      fits = λ d sh. record {
        whole = subst (λ k. CoverSets d (with_clones i.shared y k many is)) sh.next_is
            (whole-clones i.shared y many d is sh.sound sh.sets);
        sound = sound d sh;
      };
      brings = λ d sh m b q e. brings-clones i.shared y many d is m b sh.sound q
          (ap (λ k. bug_in (with_clones i.shared y k many is) m) sh.next_is ∙ e);
      refusals = λ d e k names. subst (λ (z : Result Desk Refusal). IsRefusedAs z (Ok new)) (sym (steps d e k)) tt;
      own = tt;
      apart = λ d sound e sets. subst (λ k. AreApart (with_clones i.shared y k many is)) e
          (apart-with i.shared y many d is sound sets a);
      members = each-append HasMember (clone_images i.shared y next many) (others [] is)
          (members-clones i.shared y next many) (others-members [] is);
      covers = covers-clones i.shared y next many is;
      later = omega arith;
    })
  where
    many : ℕ
    many = length ks

    new : Change
    new = record { images = with_clones i.shared y next many is; next = next + many }

    whole : change ≡ new
    whole = λ j. record { images = same j; next = last j }

    there : bug_in is n ≡ Some (bug_of i y)
    there = image_with-member is n n i y a h
        (ap (λ ms. member_at ms n) only ∙ own_member n y (ap (λ ms. has (numbers_of ms) n) (sym only) ∙ image_with-has is n i h))

    steps : Steps (n ∷ []) (clone_step n ks) is next (λ d. Ok (with_new_bugs d (clone_of (bug_of i y)) many))
    steps d e k =
        steps-clone is next n ks i y there d e k
        ∙ (λ j. unless (option_or (r j) None) (unless (option_or (alone n i (omega (arith, ap (λ (ms : List Member). length ms) only)) j)
        (option_or (cond (le-ltb 1000000000 (next + many) few j) (Some Full) None) None))
        (Ok (with_new_bugs d (clone_of (bug_of i y)) many))))

    moved : (d : Desk) → d.next ≡ next → AreSetsOf d is → put d new ≡ with_new_bugs d (clone_of (bug_of i y)) many
    moved d e sets = subst (λ k. put d (record { images = with_clones i.shared y k many is; next = k + many })
        ≡ with_new_bugs d (clone_of (bug_of i y)) many) e (put-clones i.shared y many d is sets)

    sound : (d : Desk) → IsShownBy d is next (n ∷ []) → IsSound (put d new)
    sound d sh = subst IsSound (sym (moved d sh.next_is sh.sets))
        (sound-added d (clone_of (bug_of i y)) many sh.sound
        (good-clones d n (bug_of i y) sh.sound (shown d is sh.sets n (bug_of i y) there))
        (let e : d.next ≡ next = sh.next_is in omega (arith, few, e)))
