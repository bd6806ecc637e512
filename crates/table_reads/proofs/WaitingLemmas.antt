-- The bugs of all sets that wait on a bug, in a content that a desk keeps.
use Rattle.std.proofs.Common.{◌≡◌, ◌≤◌, ◌<◌, ◌^◌, ℕ, Bool, true, false, ◌||◌, ◌==◌, List, [], ◌∷◌, flat_map, Option, Some, None, sym, refl, ap, subst, ◌∙◌}
use Rattle.std.specs.Option.{option_map_or}
use Rattle.std.proofs.lemmas.Bool.{false≢true, eqb-true, eq-eqb}
use Rattle.bug_record.specs.Sets.{has, Each, with_items}
use Rattle.bug_record.specs.Images.{numbers_of, bug_of}
use Rattle.bug_record.specs.Waiting.{waiting_on}
use Rattle.bug_record.specs.declared.bug.Shared.{Shared}
use Rattle.bug_record.specs.declared.bug.SetImage.{SetImage}
use Rattle.base_sequences.proofs.SetLemmas.{same_test, has-append}
use Rattle.base_sequences.proofs.NumberLemmas.{has-with_items, IsAscending-with_items}
use Rattle.store_keys.proofs.KeyLemmas.{found-image, shown-some}
use Rattle.table_content.specs.Content.{Content}
use Rattle.table_content.specs.View.{image, desk_in, shared_of}
use Rattle.table_content.specs.Kept.{IsKeptContent}
use Rattle.table_content.specs.KindsAtNodes.{set_passes, bug_passes}
use Rattle.table_content.specs.declared.edit.SetFields.{SetFields}
use Rattle.table_content.proofs.QuestionLemmas.{asked}
use Rattle.table_sets.specs.Waiting.{AreKeysOf}
use Rattle.table_reads.specs.Bugs.{bugs_of}
use Rattle.table_reads.proofs.KeyLemmas.{no_bug, set_small, image_is}

-- ---- plain lists

either : (a b : Bool) {X : Type 0} → (a || b) ≡ true → (a ≡ true → X) → (b ≡ true → X) → X
either true b h f g = f refl
either false b h f g = g h

left : (a b : Bool) → a ≡ true → (a || b) ≡ true
left a b h = ap (λ t. t || b) h

right : (a b : Bool) → b ≡ true → (a || b) ≡ true
right true b h = refl
right false b h = h

first_is : (k : ℕ) (ks : List ℕ) → has (k ∷ ks) k ≡ true
first_is k ks = left (k == k) (has ks k) (eq-eqb k k refl)

-- what holds of each that is there
each_of : (P : ℕ → Type 0) (ks : List ℕ) → ((k : ℕ) → has ks k ≡ true → P k) → Each P ks
each_of P [] all = tt
each_of P (k ∷ ks) all = (all k (first_is k ks), each_of P ks (λ j h. all j (right (k == j) (has ks j) h)))

module _ (f : ℕ → List ℕ) where
  in_some : (ks : List ℕ) (n : ℕ) → has (flat_map f ks) n ≡ true → (k : ℕ) × (has ks k ≡ true) × (has (f k) n ≡ true)
  in_some [] n h = absurd (false≢true h)
  in_some (k ∷ ks) n h = either (has (f k) n) (has (flat_map f ks) n) (sym (has-append (f k) (flat_map f ks) n) ∙ h)
      (λ here. (k, first_is k ks, here))
      (λ later. let more = in_some ks n later in (more.0, right (k == more.0) (has ks more.0) more.1, more.2))

  some_in : (ks : List ℕ) (k n : ℕ) → has ks k ≡ true → has (f k) n ≡ true → has (flat_map f ks) n ≡ true
  some_in [] k n h e = absurd (false≢true h)
  some_in (j ∷ ks) k n h e =
      has-append (f j) (flat_map f ks) n
      ∙ either (j == k) (has ks k) h
      (λ same. left (has (f j) n) (has (flat_map f ks) n) (ap (λ i. has (f i) n) (eqb-true j k same) ∙ e))
      (λ later. right (has (f j) n) (has (flat_map f ks) n) (some_in ks k n later e))

-- ---- contents

abbrev waits : ℕ → Shared → Bool
waits b f = has f.blockers b

module _ (c : Content) (kept : IsKeptContent c) (b : ℕ) where
  -- a set that waits has a row
  waiting_set : (k : ℕ) → has (c.blockers k) b ≡ true → (f : SetFields) × (c.fields k ≡ Some f)
  waiting_set k h = cases (c.fields k) refl
    where
      cases : (o : Option SetFields) → c.fields k ≡ o → (f : SetFields) × (c.fields k ≡ Some f)
      cases None e = absurd (false≢true (sym (ap (λ bs. has bs b) (kept.no_blockers k e)) ∙ h))
      cases (Some f) e = (f, e)

  abbrev set_of : ℕ → SetFields → SetImage
  set_of k f = record { shared = shared_of c k f; members = c.members k }

  is_set : (k : ℕ) (f : SetFields) → c.fields k ≡ Some f → image c k ≡ Some (set_of k f)
  is_set k f e = image_is c k f e

  passing : (k : ℕ) (f : SetFields) → c.fields k ≡ Some f → set_passes (waits b) c k ≡ has (c.blockers k) b
  passing k f e = ap (λ (o : Option SetFields). option_map_or (λ f. waits b (shared_of c k f)) o false) e

  -- where a set passes it waits
  passed : (k : ℕ) → set_passes (waits b) c k ≡ true → has (c.blockers k) b ≡ true
  passed k h = cases (c.fields k) refl
    where
      cases : (o : Option SetFields) → c.fields k ≡ o → has (c.blockers k) b ≡ true
      cases None e = absurd (false≢true (sym (ap (λ (o : Option SetFields). option_map_or (λ f. waits b (shared_of c k f)) o false) e) ∙ h))
      cases (Some f) e = sym (passing k f e) ∙ h

  -- a bug that passes has a set that waits
  passing_key : (n : ℕ) → bug_passes (waits b) c n ≡ true → (k : ℕ) × (c.key n ≡ Some k) × (has (c.blockers k) b ≡ true)
  passing_key n h = cases (c.key n) refl
    where
      cases : (o : Option ℕ) → c.key n ≡ o → (k : ℕ) × (c.key n ≡ Some k) × (has (c.blockers k) b ≡ true)
      cases None e = absurd (false≢true (sym (ap (λ (o : Option ℕ). option_map_or (set_passes (waits b) c) o false) e) ∙ h))
      cases (Some k) e = (k, e, passed k (sym (ap (λ (o : Option ℕ). option_map_or (set_passes (waits b) c) o false) e) ∙ h))

  module _ (keys : List ℕ) (are : AreKeysOf b c keys) where
    -- each key is a u32
    pub keys_small : Each (λ k. k < 2 ^ 32) keys
    keys_small = each_of (λ k. k < 2 ^ 32) keys (λ k h.
        let f = waiting_set k (sym (are k) ∙ h) in
        set_small c kept k (set_of k f.0) (is_set k f.0 f.1))

    bug_waits : (n : ℕ) → has (bugs_of c keys) n ≡ true → bug_passes (waits b) c n ≡ true
    bug_waits n h =
        let k = in_some (λ k. numbers_of (c.members k)) keys n h in
        let blocks = sym (are k.0) ∙ k.1 in
        let f = waiting_set k.0 blocks in
        ap (λ (o : Option ℕ). option_map_or (set_passes (waits b) c) o false) (kept.keyed.known n k.0 (set_of k.0 f.0) (is_set k.0 f.0 f.1) k.2)
        ∙ passing k.0 f.0 f.1 ∙ blocks

    waiting_bug : (n : ℕ) → bug_passes (waits b) c n ≡ true → has (bugs_of c keys) n ≡ true
    waiting_bug n h =
        let k = passing_key n h in
        let f = waiting_set k.0 k.2 in
        let i = found-image c.key (image c) kept.keyed n k.0 k.1 in
        some_in (λ k. numbers_of (c.members k)) keys k.0 n (are k.0 ∙ k.2)
        (subst (λ (o : Option SetImage). option_map_or (λ (i : SetImage). has (numbers_of i.members) n) o false ≡ true) (is_set k.0 f.0 f.1)
        (ap (λ (o : Option SetImage). option_map_or (λ (i : SetImage). has (numbers_of i.members) n) o false) i.1 ∙ i.2))

    -- the bugs of their sets are those that wait
    pub all_wait : with_items (λ n. n) [] (bugs_of c keys) ≡ waiting_on (desk_in c) b
    all_wait =
        asked c (waits b) kept (with_items (λ n. n) [] (bugs_of c keys)) (IsAscending-with_items (bugs_of c keys) [] tt)
        (λ n. has-with_items (bugs_of c keys) [] n ∙ same_test (has (bugs_of c keys) n) (bug_passes (waits b) c n) (bug_waits n) (waiting_bug n))

  -- no bug waits on a number that is no u32
  pub none_waits : 2 ^ 32 ≤ b → [] ≡ waiting_on (desk_in c) b
  none_waits large = asked c (waits b) kept [] tt (λ n. same_test false (bug_passes (waits b) c n) (λ h. absurd (false≢true h)) (λ h. never n h))
    where
      never : (n : ℕ) → bug_passes (waits b) c n ≡ true → false ≡ true
      never n h =
          let k = passing_key n h in
          let f = waiting_set k.0 k.2 in
          let s = set_of k.0 f.0 in
          let e = is_set k.0 f.0 f.1 in
          let x = shown-some c.key (image c) kept.keyed k.0 k.0 s e (kept.keyed.own k.0 s e) in
          absurd ((kept.sound.blockers k.0 (bug_of s x.0) x.1).there b k.2 (no_bug c kept b large))
