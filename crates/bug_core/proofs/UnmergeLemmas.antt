-- A bug that is taken out of its set.
use Rattle.std.proofs.Common.{◌≡◌, ℕ, Bool, true, false, cond, not, ◌||◌, ◌&&◌, eqb, List, [], ◌∷◌, ◌++◌, Option, Some, None, Ok}
use Rattle.std.proofs.Common.{Result, Err, sym, refl, ap, ◌∙◌}
use Rattle.std.specs.Prelude.{option_map, filter, ◌==◌}
use Rattle.std.specs.Option.{option_or}
use Rattle.std.proofs.lemmas.Option.{none-some}
use Rattle.std.proofs.lemmas.Bool.{false≢true, eqb-true, eq-eqb, and_parts, false_from_ne_true}
use Rattle.bug_record.specs.Sets.{has, IsAscending}
use Rattle.bug_record.specs.Desk.{Desk, IsSound}
use Rattle.bug_record.specs.Bugs.{at_bug, unless}
use Rattle.bug_record.specs.Words.{bug_refusal, first_bug_refusal}
use Rattle.bug_record.specs.Merges.{parted, others_merged, taken_out, unmerged}
use Rattle.bug_record.specs.Images.{numbers_of, member_at, bug_of, bug_in, AreApart, AreSetsOf, image_with}
use Rattle.bug_record.specs.declared.bug.Bug.{Bug}
use Rattle.bug_record.specs.declared.bug.Member.{Member}
use Rattle.bug_record.specs.declared.bug.SetImage.{SetImage}
use Rattle.bug_record.specs.declared.command.Change.{Change}
use Rattle.bug_record.specs.declared.command.PlanFault.TheVariants.{Refused}
use Rattle.bug_record.specs.declared.command.Refusal.{Refusal}
use Rattle.bug_record.specs.declared.command.Refusal.TheVariants.{NoBug, NotMerged}
use Rattle.base_sequences.proofs.SetLemmas.{has-filter, IsAscending-filter, same-ascending, one_number}
use Rattle.bug_core.specs.Others.{others}
use Rattle.bug_core.specs.Joins.{is_part}
use Rattle.bug_record.specs.Words.{archived_refusal}
use Rattle.bug_core.specs.Planned.{IsPlannedOf}
use Rattle.bug_images.proofs.ImageLemmas.{same_value, member-has, has-member_some, shown, image_with-has, image_with-shows}
use Rattle.bug_images.proofs.ImageLemmas.{image_with-none, image_with-lacks, image_with-bug, image_with-member}
use Rattle.bug_fields.proofs.SoundLemmas.{agree, merged-back, sound-each_bug}
use Rattle.bug_core.proofs.ReplaceLemmas.{TakesPlace, Makes, one_of, apart-replaced}
use Rattle.bug_core.proofs.PlanLemmas.{Steps, planned-refused, planned-replaced, own-archived}

-- the images of the two parts
abbrev pub part_of : SetImage → Bool → ℕ → SetImage
part_of i own n = record { shared = i.shared; members = filter (is_part own n) i.members }

abbrev pub parts : SetImage → ℕ → List SetImage
parts i n = part_of i true n ∷ part_of i false n ∷ []

-- their numbers
numbers-own : (n : ℕ) (ms : List Member) → numbers_of (filter (is_part true n) ms) ≡ filter (λ m. m == n) (numbers_of ms)
numbers-own n [] = refl
numbers-own n (x ∷ ms) =
    elim (eqb x.number n) as (λ t. numbers_of (cond t (x ∷ filter (is_part true n) ms) (filter (is_part true n) ms))
    ≡ cond t (x.number ∷ filter (λ m. m == n) (numbers_of ms)) (filter (λ m. m == n) (numbers_of ms)))
    [ true ↦ ap (λ ns. x.number ∷ ns) (numbers-own n ms) | false ↦ numbers-own n ms ]

pub numbers-rest : (n : ℕ) (ms : List Member) → numbers_of (filter (is_part false n) ms) ≡ others_merged n (numbers_of ms)
numbers-rest n [] = refl
numbers-rest n (x ∷ ms) =
    elim (not (eqb x.number n)) as (λ t. numbers_of (cond t (x ∷ filter (is_part false n) ms) (filter (is_part false n) ms))
    ≡ cond t (x.number ∷ others_merged n (numbers_of ms)) (others_merged n (numbers_of ms)))
    [ true ↦ ap (λ ns. x.number ∷ ns) (numbers-rest n ms) | false ↦ numbers-rest n ms ]

either : (t : Bool) (o : Option Member) → o ≡ cond t o o
either true o = refl
either false o = refl

-- the member m is in the part that it belongs to
member-own : (n m : ℕ) (ms : List Member) → member_at (filter (is_part true n) ms) m ≡ cond (eqb m n) (member_at ms m) None
member-own n m [] = either (eqb m n) None
member-own n m (x ∷ ms) =
    elim (eqb x.number m) as (λ t. eqb x.number m ≡ t
    → member_at (filter (is_part true n) (x ∷ ms)) m ≡ cond (eqb m n) (cond t (Some x) (member_at ms m)) None) [
      | true ↦ λ e. here (member-own n m ms) e (eqb m n) refl
      | false ↦ λ e. elim (eqb x.number n) as (λ t. member_at
          (cond t (x ∷ filter (is_part true n) ms) (filter (is_part true n) ms)) m ≡ cond (eqb m n) (member_at ms m) None) [
            | true ↦ ap (λ t. cond t (Some x) (member_at (filter (is_part true n) ms) m)) e ∙ member-own n m ms
            | false ↦
                member-own n m ms
          ]
    ] refl
  where
    here : member_at (filter (is_part true n) ms) m ≡ cond (eqb m n) (member_at ms m) None → eqb x.number m ≡ true → (t : Bool)
        → eqb m n ≡ t → member_at (filter (is_part true n) (x ∷ ms)) m ≡ cond t (Some x) None
    here later e true q =
        ap (λ t. member_at (cond t (x ∷ filter (is_part true n) ms) (filter (is_part true n) ms)) m)
        (ap (λ k. eqb k n) (eqb-true x.number m e) ∙ q) ∙ ap (λ t. cond t (Some x) (member_at (filter (is_part true n) ms) m)) e
    here later e false q =
        ap (λ t. member_at (cond t (x ∷ filter (is_part true n) ms) (filter (is_part true n) ms)) m)
        (ap (λ k. eqb k n) (eqb-true x.number m e) ∙ q) ∙ later ∙ ap (λ t. cond t (member_at ms m) None) q

member-rest : (n m : ℕ) (ms : List Member) → member_at (filter (is_part false n) ms) m ≡ cond (eqb m n) None (member_at ms m)
member-rest n m [] = either (eqb m n) None
member-rest n m (x ∷ ms) =
    elim (eqb x.number m) as (λ t. eqb x.number m ≡ t
    → member_at (filter (is_part false n) (x ∷ ms)) m ≡ cond (eqb m n) None (cond t (Some x) (member_at ms m))) [
      | true ↦ λ e. here (member-rest n m ms) e (eqb m n) refl
      | false ↦ λ e. elim (not (eqb x.number n)) as (λ t. member_at
          (cond t (x ∷ filter (is_part false n) ms) (filter (is_part false n) ms)) m ≡ cond (eqb m n) None (member_at ms m)) [
            | true ↦ ap (λ t. cond t (Some x) (member_at (filter (is_part false n) ms) m)) e ∙ member-rest n m ms
            | false ↦
                member-rest n m ms
          ]
    ] refl
  where
    here : member_at (filter (is_part false n) ms) m ≡ cond (eqb m n) None (member_at ms m) → eqb x.number m ≡ true → (t : Bool)
        → eqb m n ≡ t → member_at (filter (is_part false n) (x ∷ ms)) m ≡ cond t None (Some x)
    here later e true q =
        ap (λ t. member_at (cond (not t) (x ∷ filter (is_part false n) ms) (filter (is_part false n) ms)) m)
        (ap (λ k. eqb k n) (eqb-true x.number m e) ∙ q) ∙ later ∙ ap (λ t. cond t None (member_at ms m)) q
    here later e false q =
        ap (λ t. member_at (cond (not t) (x ∷ filter (is_part false n) ms) (filter (is_part false n) ms)) m)
        (ap (λ k. eqb k n) (eqb-true x.number m e) ∙ q) ∙ ap (λ t. cond t (Some x) (member_at (filter (is_part false n) ms) m)) e

-- what the two images show
shows-parts : (i : SetImage) (n m : ℕ) (o : Option Member) → member_at i.members m ≡ o → (t : Bool) → eqb m n ≡ t
    → bug_in (parts i n) m ≡ option_map (bug_of (part_of i t n)) o
shows-parts i n m o e t q =
    ap (λ (z : Option Member). option_or (option_map (bug_of (part_of i true n)) z)
    (option_or (option_map (bug_of (part_of i false n)) (member_at (part_of i false n).members m)) None))
    (member-own n m i.members)
    ∙ ap (λ (z : Option Member). option_or (option_map (bug_of (part_of i true n)) (cond (eqb m n) (member_at i.members m) None))
    (option_or (option_map (bug_of (part_of i false n)) z) None)) (member-rest n m i.members)
    ∙ (λ j. option_or (option_map (bug_of (part_of i true n)) (cond (q j) (e j) None))
    (option_or (option_map (bug_of (part_of i false n)) (cond (q j) None (e j))) None))
    ∙ cases o t
  where
    cases : (o : Option Member) (t : Bool)
        → option_or (option_map (bug_of (part_of i true n)) (cond t o None))
        (option_or (option_map (bug_of (part_of i false n)) (cond t None o)) None) ≡ option_map (bug_of (part_of i t n)) o
    cases None true = refl
    cases None false = refl
    cases (Some x) true = refl
    cases (Some x) false = refl

-- the images stand in the place of the bug's
pub parts-take_place : (is : List SetImage) (n : ℕ) (i : SetImage) → AreApart is → image_with is n ≡ Some i
    → ((part_of i false n).members ≡ [] → ⊥) → TakesPlace is (n ∷ []) (parts i n)
parts-take_place is n i a h some = record {
  inside = λ m b q k none. let own = image_with-bug is n m i b a h q (sym (one_of b.merged n) ∙ k) in
      none-some _ (sym none ∙ shows-parts i n m (Some own.0) own.1 (eqb m n) refl);
  outside = λ m b q k. lacks m b q (sym (one_of b.merged n) ∙ k) (member_at i.members m) refl;
  nowhere = λ m q. shows-parts i n m None (image_with-lacks is n m i h q) (eqb m n) refl;
  apart = ((λ m k. apart m (own_number m k)), ((λ m k. refl), tt));
  members = (own_some, (some, tt));
}
  where
    lacks : (m : ℕ) (b : Bug) → bug_in is m ≡ Some b → has b.merged n ≡ false → (o : Option Member) → member_at i.members m ≡ o
        → bug_in (parts i n) m ≡ None
    lacks m b q k None e = shows-parts i n m None e (eqb m n) refl
    lacks m b q k (Some x) e =
        absurd (false≢true (sym k
        ∙ ap (λ (z : Bug). has z.merged n) (same_value b (bug_of i x) q (image_with-member is n m i x a h e))
        ∙ image_with-has is n i h))

    own_number : (m : ℕ) → has (numbers_of (part_of i true n).members) m ≡ true → eqb m n ≡ true
    own_number m k = (and_parts (has (numbers_of i.members) m) (eqb m n)
        (sym (has-filter (λ m. m == n) (numbers_of i.members) m) ∙ ap (λ ns. has ns m) (sym (numbers-own n i.members)) ∙ k)).1

    apart : (m : ℕ) → eqb m n ≡ true → bug_in (part_of i false n ∷ []) m ≡ None
    apart m e = ap (λ (z : Option Member). option_or (option_map (bug_of (part_of i false n)) z) None)
        (member-rest n m i.members ∙ ap (λ t. cond t None (member_at i.members m)) e)

    own_some : (part_of i true n).members ≡ [] → ⊥
    own_some e = false≢true (
        ap (λ ms. has (numbers_of ms) n) (sym e) ∙ ap (λ ns. has ns n) (numbers-own n i.members)
        ∙ has-filter (λ m. m == n) (numbers_of i.members) n
        ∙ (λ j. image_with-has is n i h j && eq-eqb n n refl j))

-- a set has the number once
own-alone : (n : ℕ) (xs : List ℕ) → IsAscending xs → has xs n ≡ true → filter (λ m. m == n) xs ≡ n ∷ []
own-alone n xs a h =
    same-ascending (filter (λ m. m == n) xs) (n ∷ []) (IsAscending-filter (λ m. m == n) xs a) (tt, tt)
    (λ m. has-filter (λ m. m == n) xs m ∙ at m (eqb m n) refl)
  where
    at : (m : ℕ) (t : Bool) → eqb m n ≡ t → (has xs m && t) ≡ (eqb n m || false)
    at m true e = (λ j. (ap (λ k. has xs k) (eqb-true m n e) ∙ h) j && true)
        ∙ sym (ap (λ t. t || false) (eq-eqb n m (sym (eqb-true m n e))))
    at m false e = none (has xs m)
        ∙ sym (ap (λ t. t || false) (false_from_ne_true (eqb n m) (λ q. false≢true (sym e ∙ eq-eqb m n (sym (eqb-true n m q))))))
      where
        none : (b : Bool) → (b && false) ≡ false
        none true = refl
        none false = refl

-- the change of each bug
abbrev pub bug_parted : ℕ → List ℕ → ℕ → Bug → Bug
bug_parted n rest m b = record b { merged = cond (eqb m n) (n ∷ []) (cond (has rest m) rest b.merged) }

pub parts-make : (d : Desk) (is : List SetImage) (n : ℕ) (i : SetImage) → IsSound d → AreSetsOf d is → AreApart is
    → image_with is n ≡ Some i → Makes d is (n ∷ []) (parts i n) (bug_parted n (others_merged n (numbers_of i.members)))
parts-make d is n i sound sets a h = record {
  inside = λ m b q k. let own = image_with-bug is n m i b a h q (sym (one_of b.merged n) ∙ k) in
      inside m own.0 own.1 (eqb m n) refl ∙ ap (λ (z : Bug). Some (bug_parted n rest m z)) (sym own.2);
  elsewhere = λ m b e k. elsewhere m b e (sym (one_of b.merged n) ∙ k);
}
  where
    rest : List ℕ
    rest = others_merged n (numbers_of i.members)

    named : (x : Member) × (bug_in is n ≡ Some (bug_of i x))
    named = image_with-shows is n i h

    up : IsAscending (numbers_of i.members)
    up = sound.ascending n (bug_of i named.0) (shown d is sets n (bug_of i named.0) named.1)

    own_numbers : numbers_of (part_of i true n).members ≡ n ∷ []
    own_numbers = numbers-own n i.members ∙ own-alone n (numbers_of i.members) up (image_with-has is n i h)

    inside : (m : ℕ) (x : Member) → member_at i.members m ≡ Some x → (t : Bool) → eqb m n ≡ t
        → bug_in (parts i n) m ≡ Some (bug_parted n rest m (bug_of i x))
    inside m x e true q =
        shows-parts i n m (Some x) e true q ∙ (λ j. Some (record (bug_of i x) { merged = own_numbers j }))
        ∙ (λ j. Some (record (bug_of i x) { merged = cond (sym q j) (n ∷ []) (cond (has rest m) rest (numbers_of i.members)) }))
    inside m x e false q =
        let mine : has rest m ≡ true =
        has-filter (λ m. not (m == n)) (numbers_of i.members) m ∙ (λ j. has-member_some i.members m x e j && not (q j)) in
        shows-parts i n m (Some x) e false q ∙ (λ j. Some (record (bug_of i x) { merged = numbers-rest n i.members j }))
        ∙ (λ j. Some (record (bug_of i x) { merged = cond (sym q j) (n ∷ []) (cond (sym mine j) rest (numbers_of i.members)) }))

    not_named : (m : ℕ) (b : Bug) → d.bug m ≡ Some b → has b.merged n ≡ false → eqb m n ≡ false
    not_named m b e k = false_from_ne_true (eqb m n)
        (λ q. false≢true (sym k ∙ ap (λ z. has b.merged z) (sym (eqb-true m n q)) ∙ sound.own m b e))

    not_rest : (m : ℕ) (b : Bug) → d.bug m ≡ Some b → has b.merged n ≡ false → has rest m ≡ false
    not_rest m b e k = false_from_ne_true (has rest m) (λ q.
        let both = and_parts (has (numbers_of i.members) m) (not (eqb m n))
        (sym (has-filter (λ m. not (m == n)) (numbers_of i.members) m) ∙ q) in
        let x = member-has i.members m both.0 in
        let same : b ≡ bug_of i x.0 =
        same_value b (bug_of i x.0) e (shown d is sets m (bug_of i x.0) (image_with-member is n m i x.0 a h x.1)) in
        false≢true (sym k ∙ ap (λ (z : Bug). has z.merged n) same ∙ image_with-has is n i h))

    elsewhere : (m : ℕ) (b : Bug) → d.bug m ≡ Some b → has b.merged n ≡ false → bug_parted n rest m b ≡ b
    elsewhere m b e k = λ j. record b { merged = cond (not_named m b e k j) (n ∷ []) (cond (not_rest m b e k j) rest b.merged) }

-- the desk stays sound
pub sound-parted : (d : Desk) (n : ℕ) (b : Bug) → IsSound d → d.bug n ≡ Some b → IsSound (parted d n (others_merged n b.merged))
sound-parted d n b sound here = sound-each_bug d (bug_parted n rest) sound (record {
  own = λ m c e. own m c e (eqb m n) refl (has rest m) refl;
  ascending = λ m c e. ascending m c e (eqb m n) (has rest m);
  agree = λ m k c e q. agrees m k c e (eqb m n) refl (has rest m) refl q;
  texts = λ m c e. let t = sound.texts m c e in record { title = t.title; submitter = t.submitter; shared = t.shared };
  blockers = λ m c e. let g = sound.blockers m c e in
      record { ascending = g.ascending; there = g.there; outside = λ k h. parts_out m k c e (eqb m n) refl (has rest m) refl (g.outside k h) };
})
  where
    rest : List ℕ
    rest = others_merged n b.merged

    in_rest : (m : ℕ) → has rest m ≡ true → (has b.merged m ≡ true) × (not (eqb m n) ≡ true)
    in_rest m q = and_parts (has b.merged m) (not (eqb m n)) (sym (has-filter (λ m. not (m == n)) b.merged m) ∙ q)

    to_rest : (m : ℕ) → has b.merged m ≡ true → eqb m n ≡ false → has rest m ≡ true
    to_rest m q e = has-filter (λ m. not (m == n)) b.merged m ∙ (λ j. q j && not (e j))

    other : (m : ℕ) → not (eqb m n) ≡ true → eqb m n ≡ false
    other m q = turn (eqb m n) q
      where
        turn : (t : Bool) → not t ≡ true → t ≡ false
        turn true h = absurd (false≢true h)
        turn false h = refl

    -- what is outside a set is outside its parts
    parts_out : (m k : ℕ) (c : Bug) → d.bug m ≡ Some c → (t : Bool) → eqb m n ≡ t → (u : Bool) → has rest m ≡ u
        → has c.merged k ≡ false → has (cond t (n ∷ []) (cond u rest c.merged)) k ≡ false
    parts_out m k c e true q u r h = false_from_ne_true (has (n ∷ []) k) (λ w.
        false≢true (sym h ∙ ap (has c.merged) (one_number k n w ∙ sym (eqb-true m n q)) ∙ sound.own m c e))
    parts_out m k c e false q true r h = false_from_ne_true (has rest k) (λ w.
        let a = agree d sound n m b here (in_rest m r).0 in
        false≢true (sym h ∙ ap (λ (z : Bug). has z.merged k) (same_value c a.0 e a.1) ∙ ap (λ z. has z k) a.2 ∙ (in_rest k w).0))
    parts_out m k c e false q false r h = h

    own : (m : ℕ) (c : Bug) → d.bug m ≡ Some c → (t : Bool) → eqb m n ≡ t → (u : Bool) → has rest m ≡ u
        → has (cond t (n ∷ []) (cond u rest c.merged)) m ≡ true
    own m c e true q u r = ap (λ z. z || false) (eq-eqb n m (sym (eqb-true m n q)))
    own m c e false q true r = r
    own m c e false q false r = sound.own m c e

    ascending : (m : ℕ) (c : Bug) → d.bug m ≡ Some c → (t u : Bool) → IsAscending (cond t (n ∷ []) (cond u rest c.merged))
    ascending m c e true u = (tt, tt)
    ascending m c e false true = IsAscending-filter (λ m. not (m == n)) b.merged (sound.ascending n b here)
    ascending m c e false false = sound.ascending m c e

    Mate : ℕ → List ℕ → Bug → Type 0
    Mate k merged c = (g : Bug) × (d.bug k ≡ Some g) × ((bug_parted n rest k g).merged ≡ merged) × (g.shared ≡ c.shared)

    agrees : (m k : ℕ) (c : Bug) → d.bug m ≡ Some c → (t : Bool) → eqb m n ≡ t → (u : Bool) → has rest m ≡ u
        → has (cond t (n ∷ []) (cond u rest c.merged)) k ≡ true → Mate k (cond t (n ∷ []) (cond u rest c.merged)) c
    agrees m k c e true q u r h =
        let one : k ≡ n = one_number k n h in
        let mine : m ≡ n = eqb-true m n q in
        (c, ap d.bug (one ∙ sym mine) ∙ e, ap (λ t. cond t (n ∷ []) (cond (has rest k) rest c.merged)) (eq-eqb k n one), refl)
    agrees m k c e false q true r h =
        let mine = in_rest m r in
        let his = in_rest k h in
        let a = agree d sound n k b here his.0 in
        let z = agree d sound n m b here mine.0 in (
          a.0,
          a.1,
          (λ j. cond (other k his.1 j) (n ∷ []) (cond (h j) rest a.0.merged)),
          a.3 ∙ sym z.3
              ∙ ap (λ (w : Bug). w.shared) (same_value z.0 c z.1 e),
        )
    agrees m k c e false q false r h =
        let a = agree d sound m k c e h in
        let no_n : eqb k n ≡ false = false_from_ne_true (eqb k n) (λ w.
        false≢true (sym r ∙ to_rest m (merged-back d sound n m b c here e (ap (λ z. has c.merged z) (sym (eqb-true k n w)) ∙ h))
        q)) in
        let no_rest : has rest k ≡ false = false_from_ne_true (has rest k) (λ w.
        let z = agree d sound n k b here (in_rest k w).0 in
        let same : c.merged ≡ b.merged = sym a.2 ∙ ap (λ (v : Bug). v.merged) (same_value a.0 z.0 a.1 z.1) ∙ z.2 in
        false≢true (sym r ∙ to_rest m (ap (λ v. has v m) (sym same) ∙ sound.own m c e) q)) in
        (a.0, a.1, (λ j. cond (no_n j) (n ∷ []) (cond (no_rest j) rest a.0.merged)) ∙ a.2, a.3)

-- ---- the plan

taken-none : (d : Desk) (n : ℕ) (rest : List ℕ) → rest ≡ [] → taken_out d n rest ≡ Err (NotMerged n)
taken-none d n rest e = ap (taken_out d n) e

taken-some : (d : Desk) (n : ℕ) (rest : List ℕ) → (rest ≡ [] → ⊥) → taken_out d n rest ≡ Ok (parted d n rest)
taken-some d n [] some = absurd (some refl)
taken-some d n (m ∷ rest) some = refl

-- the step of the command, and it by what is known of the bug
abbrev unmerge_step : ℕ → Desk → Result Desk Refusal
unmerge_step n d = unless (first_bug_refusal false d.bug (n ∷ [])) (unmerged d n)

abbrev by_bug : Desk → ℕ → Option Bug → Result Desk Refusal
by_bug d n o = unless (option_or (bug_refusal false o n) None) (at_bug o n (λ b. taken_out d n (others_merged n b.merged)))

steps-unmerge : (is : List SetImage) (next n : ℕ) (i : SetImage) → image_with is n ≡ Some i
    → Steps (n ∷ []) (unmerge_step n) is next
    (λ d. unless (option_or (archived_refusal false n i.shared) None) (taken_out d n (others_merged n (numbers_of i.members))))
steps-unmerge is next n i h d e k =
    let b = image_with-shows is n i h in
    ap (by_bug d n) (sym k.0 ∙ b.1)

pub unmerge-archived : (is : List SetImage) (next n : ℕ) (i : SetImage) (refusal : Refusal) → image_with is n ≡ Some i
    → archived_refusal false n i.shared ≡ Some refusal
    → IsPlannedOf (n ∷ []) (λ d. unmerged d n) is next (Err (Refused refusal))
unmerge-archived is next n i refusal h r =
    planned-refused (n ∷ []) (unmerge_step n) is next refusal (own-archived false n i.shared refusal r)
    (λ d e k. steps-unmerge is next n i h d e k
    ∙ ap (λ (o : Option Refusal). unless (option_or o None) (taken_out d n (others_merged n (numbers_of i.members)))) r)

pub unmerge-no_bug : (is : List SetImage) (next n : ℕ) → image_with is n ≡ None
    → IsPlannedOf (n ∷ []) (λ d. unmerged d n) is next (Err (Refused (NoBug n)))
unmerge-no_bug is next n h =
    planned-refused (n ∷ []) (unmerge_step n) is next (NoBug n) tt
    (λ d e k. ap (by_bug d n) (sym k.0 ∙ image_with-none is n h))

pub unmerge-alone : (is : List SetImage) (next n : ℕ) (i : SetImage) → image_with is n ≡ Some i
    → archived_refusal false n i.shared ≡ None → (part_of i false n).members ≡ []
    → IsPlannedOf (n ∷ []) (λ d. unmerged d n) is next (Err (Refused (NotMerged n)))
unmerge-alone is next n i h r none =
    planned-refused (n ∷ []) (unmerge_step n) is next (NotMerged n) tt
    (λ d e k. steps-unmerge is next n i h d e k
    ∙ ap (λ (o : Option Refusal). unless (option_or o None) (taken_out d n (others_merged n (numbers_of i.members)))) r
    ∙ taken-none d n (others_merged n (numbers_of i.members)) (sym (numbers-rest n i.members) ∙ ap numbers_of none))

no_numbers : (ms : List Member) → numbers_of ms ≡ [] → ms ≡ []
no_numbers [] e = refl
no_numbers (m ∷ ms) e = absurd (cons_nil m.number (numbers_of ms) e)
  where
    cons_nil : (x : ℕ) (xs : List ℕ) → x ∷ xs ≡ [] → ⊥
    cons_nil x xs q = cc

pub parts-apart : (is : List SetImage) (n : ℕ) (i : SetImage) → AreApart is → image_with is n ≡ Some i
    → ((part_of i false n).members ≡ [] → ⊥) → AreApart (parts i n ++ others (n ∷ []) is)
parts-apart is n i a h some = apart-replaced is (n ∷ []) (parts i n) a (parts-take_place is n i a h some)

pub unmerge-done : (is : List SetImage) (next n : ℕ) (i : SetImage) → AreApart is → image_with is n ≡ Some i
    → archived_refusal false n i.shared ≡ None → ((part_of i false n).members ≡ [] → ⊥)
    → (change : Change) → change.images ≡ parts i n ++ others (n ∷ []) is → change.next ≡ next
    → IsPlannedOf (n ∷ []) (λ d. unmerged d n) is next (Ok change)
unmerge-done is next n i a h r some =
    planned-replaced (n ∷ []) (unmerge_step n) is next (n ∷ []) (parts i n)
    (bug_parted n (others_merged n (numbers_of i.members))) a
    (parts-take_place is n i a h some)
    (λ d k. k)
    (λ d e k. steps-unmerge is next n i h d e k
    ∙ ap (λ (o : Option Refusal). unless (option_or o None) (taken_out d n (others_merged n (numbers_of i.members)))) r
    ∙ taken-some d n (others_merged n (numbers_of i.members))
    (λ q. some (no_numbers (part_of i false n).members (numbers-rest n i.members ∙ q))))
    (λ d sh. parts-make d is n i sh.sound sh.sets a h)
    (λ d sh. let b = image_with-shows is n i h in
    sound-parted d n (bug_of i b.0) sh.sound (shown d is sh.sets n (bug_of i b.0) b.1))
