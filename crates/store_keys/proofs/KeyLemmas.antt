-- Desks that are kept by sets, seen as the key of each bug and the image of each key: what a set's
-- image says of the desk, and what a change makes of the keys and the images.
use Rattle.std.proofs.Common.{◌≡◌, ℕ, true, cond, eqb, List, [], ◌∷◌, Option, Some, None, sym, refl, ap, ◌∙◌}
use Rattle.std.specs.Prelude.{option_map, Bool, false}
use Rattle.std.specs.Option.{option_or, option_and_then}
use Rattle.std.proofs.lemmas.Option.{same_Some, none-some}
use Rattle.std.proofs.lemmas.Bool.{false≢true, eqb-true, eq-eqb}
use Rattle.version_nodes.specs.Trees.{Ancestry}
use Rattle.bug_record.specs.Sets.{has, Each, IsAscending}
use Rattle.bug_record.specs.Desk.{IsSound}
use Rattle.bug_record.specs.Images.{numbers_of, member_at, bug_of, bug_in, IsSetOf, AreApart, CoverSets, image_with}
use Rattle.bug_record.specs.declared.bug.Bug.{Bug}
use Rattle.bug_record.specs.declared.bug.Member.{Member}
use Rattle.bug_record.specs.declared.bug.SetImage.{SetImage}
use Rattle.store_keys.specs.Keys.{key_of, keyed_bug, keyed_desk, has_bug, IsKeyed, key_after, image_at_key, set_after}
use Rattle.store_keys.proofs.ImageLemmas.{none_from, member-has, has-member_some, each_found, first-has, image_with-has}
use Rattle.store_keys.proofs.ImageLemmas.{image_with-same, bug_in-some, bug_in-none, bug_in-image_with}

-- the bug n, as an image shows it
abbrev show : ℕ → Option SetImage → Option Bug
show n o = option_and_then (λ (j : SetImage). option_map (bug_of j) (member_at j.members n)) o

-- ---- the set of a key

module _ (key : ℕ → Option ℕ) (set : ℕ → Option SetImage) (keyed : IsKeyed key set) where
  -- the image shows each of its bugs
  pub shown : (k n : ℕ) (i : SetImage) → set k ≡ Some i → has (numbers_of i.members) n ≡ true
      → keyed_bug key set n ≡ option_map (bug_of i) (member_at i.members n)
  shown k n i e h = ap (show n) (ap (option_and_then set) (keyed.known n k i e h) ∙ e)

  pub shown-some : (k n : ℕ) (i : SetImage) → set k ≡ Some i → has (numbers_of i.members) n ≡ true
      → (x : Member) × (keyed_bug key set n ≡ Some (bug_of i x))
  shown-some k n i e h = let x = member-has i.members n h in (x.0, shown k n i e h ∙ ap (option_map (bug_of i)) x.1)

  -- a key has an image that has the bug
  pub found-image : (n k : ℕ) → key n ≡ Some k → (i : SetImage) × (set k ≡ Some i) × (has (numbers_of i.members) n ≡ true)
  found-image n k e = cases (set k) refl (keyed.found n k e)
    where
      cases : (o : Option SetImage) → set k ≡ o → has_bug o n ≡ true
          → (i : SetImage) × (set k ≡ Some i) × (has (numbers_of i.members) n ≡ true)
      cases None s h = absurd (false≢true h)
      cases (Some i) s h = (i, s, h)

  each_shown : (k : ℕ) (i : SetImage) → set k ≡ Some i → (ms : List Member)
      → Each (λ m. member_at i.members m.number ≡ Some m) ms → Each (λ m. keyed_bug key set m.number ≡ Some (bug_of i m)) ms
  each_shown k i e [] h = tt
  each_shown k i e (m ∷ ms) h = (
    shown k m.number i e (has-member_some i.members m.number m h.0)
        ∙ ap (option_map (bug_of i)) h.0,
    each_shown k i e ms h.1,
  )

  -- the image of a bug's key is the image of its set
  pub image-of_key : (tree : Ancestry) (next : ℕ) → IsSound (keyed_desk key set tree next) → (n k : ℕ) (i : SetImage)
      → key n ≡ Some k → set k ≡ Some i
      → (has (numbers_of i.members) n ≡ true) × IsSetOf (keyed_desk key set tree next) i
  image-of_key tree next sound n k i e s =
      let own : has (numbers_of i.members) n ≡ true = sym (ap (λ (o : Option SetImage). has_bug o n) s) ∙ keyed.found n k e in
      let x = shown-some k n i s own in
      let ascending : IsAscending (numbers_of i.members) = sound.ascending n (bug_of i x.0) x.1 in
      (own, each_shown k i s i.members (each_found i.members ascending))

  -- ---- a change

  module _ (is : List SetImage) (tree : Ancestry) (next : ℕ) (apart : AreApart is)
      (whole : CoverSets (keyed_desk key set tree next) is) where
    -- of the bugs of a set the images have all or none
    together : (k n m : ℕ) (i : SetImage) → set k ≡ Some i → has (numbers_of i.members) n ≡ true
        → has (numbers_of i.members) m ≡ true → image_with is n ≡ None → image_with is m ≡ None
    together k n m i s own other none = none_from (image_with is m) (λ j e.
        let x = shown-some k m i s other in
        let b = bug_in-some is m j e in
        whole m n (bug_of i x.0) x.1 (λ h. none-some b.0 (sym h ∙ b.1)) own (bug_in-none is n none))

    -- the key of a bug that they don't have is none of their bugs
    pub key-stays : (n k : ℕ) → image_with is n ≡ None → key n ≡ Some k → image_with is k ≡ None
    key-stays n k none e = let i = found-image n k e in together k n k i.0 i.1 i.2 (keyed.own k i.0 i.1) none

    pub set-stays : (k : ℕ) → image_with is k ≡ None → set_after is set k ≡ set k
    set-stays k none = ap (image_at_key k (set k)) none

    -- a bug that they have gets the key of its image, and that key the image
    pub key-given : (n : ℕ) (i : SetImage) → image_with is n ≡ Some i → key_after is key n ≡ Some (key_of i)
    key-given n i e = ap (λ (o : Option SetImage). option_or (option_map key_of o) (key n)) e

    pub set-given : (n : ℕ) (i : SetImage) → image_with is n ≡ Some i → set_after is set (key_of i) ≡ Some i
    set-given n i e =
        ap (image_at_key (key_of i) (set (key_of i)))
        (image_with-same is n (key_of i) i apart e (first-has i n (image_with-has is n i e)))
        ∙ ap (λ t. cond t (Some i) None) (eq-eqb (key_of i) (key_of i) refl)

    -- a key that is one of their bugs, and not the first of its image, is retired
    pub key-retired : (k : ℕ) (j : SetImage) → image_with is k ≡ Some j → (key_of j ≡ k → ⊥) → set_after is set k ≡ None
    key-retired k j e other = ap (image_at_key k (set k)) e ∙ cases (eqb (key_of j) k) refl
      where
        cases : (t : Bool) → eqb (key_of j) k ≡ t → cond t (Some j) None ≡ None
        cases true q = absurd (other (eqb-true (key_of j) k q))
        cases false q = refl

    -- where the bug k, which named its set, is taken out, each other bug gets another key than k
    pub key-moves : (k n : ℕ) (j : SetImage) → image_with is n ≡ Some j → has (numbers_of j.members) k ≡ false
        → (m : ℕ) × (key_after is key n ≡ Some m) × (m ≡ k → ⊥)
    key-moves k n j e out = (
      key_of j,
      key-given n j e,
      λ q. false≢true (sym out
          ∙ (ap (has (numbers_of j.members)) (sym q) ∙ first-has j n (image_with-has is n j e))),
    )

    -- and k itself, alone, is the key of its own set
    pub alone-named : (k : ℕ) (j : SetImage) → image_with is k ≡ Some j → key_of j ≡ k
        → (key_after is key k ≡ Some k) × (set_after is set k ≡ Some j)
    alone-named k j e q = (key-given k j e ∙ ap Some q, ap (set_after is set) (sym q) ∙ set-given k j e)

    -- a key that is one of their bugs stays one where it is the first of its image
    key-kept : (k : ℕ) (i j : SetImage) → image_with is k ≡ Some j → set_after is set k ≡ Some i → (key_of j ≡ k) × (j ≡ i)
    key-kept k i j e h =
        elim (eqb (key_of j) k) as (λ t. eqb (key_of j) k ≡ t → cond t (Some j) None ≡ Some i → (key_of j ≡ k) × (j ≡ i)) [
          | true ↦ λ q w. (eqb-true (key_of j) k q, same_Some _ _ w)
          | false ↦ λ q w. absurd (none-some i w)
        ] refl (sym (ap (image_at_key k (set k)) e) ∙ h)

    -- keys and images fit after the change
    pub keyed-after : IsKeyed (key_after is key) (set_after is set)
    keyed-after = record {
      found = λ n k e. found n k e (image_with is n) refl;
      known = λ n k i s h. known n k i s h (image_with is k) refl;
      own = λ k i s. own k i s (image_with is k) refl;
    }
      where
        none-given : (n : ℕ) → image_with is n ≡ None → key_after is key n ≡ key n
        none-given n none = ap (λ (o : Option SetImage). option_or (option_map key_of o) (key n)) none

        found : (n k : ℕ) → key_after is key n ≡ Some k → (o : Option SetImage) → image_with is n ≡ o
            → has_bug (set_after is set k) n ≡ true
        found n k e None o =
            let was : key n ≡ Some k = sym (none-given n o) ∙ e in
            ap (λ (p : Option SetImage). has_bug p n) (set-stays k (key-stays n k o was)) ∙ keyed.found n k was
        found n k e (Some i) o =
            let same : key_of i ≡ k = same_Some _ _ (sym (key-given n i o) ∙ e) in
            ap (λ (z : ℕ). has_bug (set_after is set z) n) (sym same)
            ∙ (ap (λ (p : Option SetImage). has_bug p n) (set-given n i o) ∙ image_with-has is n i o)

        known : (n k : ℕ) (i : SetImage) → set_after is set k ≡ Some i → has (numbers_of i.members) n ≡ true
            → (o : Option SetImage) → image_with is k ≡ o → key_after is key n ≡ Some k
        known n k i s h None o =
            let was : set k ≡ Some i = sym (set-stays k o) ∙ s in
            none-given n (together k k n i was (keyed.own k i was) h o) ∙ keyed.known n k i was h
        known n k i s h (Some j) o =
            let kept = key-kept k i j o s in
            key-given n j (image_with-same is k n j apart o (ap (λ (z : SetImage). has (numbers_of z.members) n) kept.1 ∙ h))
            ∙ ap Some kept.0

        own : (k : ℕ) (i : SetImage) → set_after is set k ≡ Some i → (o : Option SetImage) → image_with is k ≡ o
            → has (numbers_of i.members) k ≡ true
        own k i s None o = keyed.own k i (sym (set-stays k o) ∙ s)
        own k i s (Some j) o =
            ap (λ (z : SetImage). has (numbers_of z.members) k) (sym (key-kept k i j o s).1) ∙ image_with-has is k j o

    -- each bug after the change
    pub bug-after : (n : ℕ) → keyed_bug (key_after is key) (set_after is set) n ≡ option_or (bug_in is n) (keyed_bug key set n)
    bug-after n = cases (image_with is n) refl
      where
        same_set : (o : Option ℕ) → key n ≡ o → image_with is n ≡ None
            → option_and_then (set_after is set) o ≡ option_and_then set o
        same_set None e none = refl
        same_set (Some k) e none = set-stays k (key-stays n k none e)

        cases : (o : Option SetImage) → image_with is n ≡ o
            → keyed_bug (key_after is key) (set_after is set) n ≡ option_or (bug_in is n) (keyed_bug key set n)
        cases None o =
            ap (λ (p : Option SetImage). show n (option_and_then (set_after is set) (option_or (option_map key_of p) (key n)))) o
            ∙ ap (show n) (same_set (key n) refl o)
            ∙ sym (ap (λ (b : Option Bug). option_or b (keyed_bug key set n)) (bug_in-none is n o))
        cases (Some i) o =
            let b = bug_in-some is n i o in
            ap (λ (p : Option ℕ). show n (option_and_then (set_after is set) p)) (key-given n i o)
            ∙ ap (show n) (set-given n i o)
            ∙ ap (show n) (sym o)
            ∙ sym (bug_in-image_with is n)
            ∙ b.1
            ∙ sym (ap (λ (p : Option Bug). option_or p (keyed_bug key set n)) b.1)
