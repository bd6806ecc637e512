-- The bugs of some numbers: what some of them has, and who is merged with some of them.
use Rattle.std.proofs.Common.{◌≡◌, ℕ, Bool, true, false, cond, ◌||◌, eqb, List, [], ◌∷◌, Option, Some, None, sym, refl, ap, ◌∙◌}
use Rattle.std.specs.Prelude.{option_map}
use Rattle.std.specs.Option.{option_or}
use Rattle.std.specs.List.{list_any}
use Rattle.std.proofs.lemmas.Option.{none-some, same_Some}
use Rattle.std.proofs.lemmas.Bool.{false≢true, eqb-true, eq-eqb, or_right}
use Rattle.bug_record.specs.Sets.{has, Each}
use Rattle.bug_record.specs.Desk.{Desk, IsSound}
use Rattle.bug_record.specs.Bugs.{with_bug, bugs_at, first_refusal}
use Rattle.bug_record.specs.Words.{bug_refusal, first_bug_refusal}
use Rattle.bug_record.specs.Images.{numbers_of, member_at, bug_of, bug_in, AreApart}
use Rattle.bug_record.specs.Plans.{AllKnown}
use Rattle.bug_record.specs.declared.bug.Bug.{Bug}
use Rattle.bug_record.specs.declared.bug.Shared.{Shared}
use Rattle.bug_record.specs.declared.bug.Member.{Member}
use Rattle.bug_record.specs.declared.bug.SetImage.{SetImage}
use Rattle.bug_record.specs.declared.command.Refusal.{Refusal}
use Rattle.bug_core.specs.Others.{has_any, is_meant, those_meant}
use Rattle.bug_images.proofs.ImageLemmas.{has-member_some, member-has, same_value}
use Rattle.base_sequences.proofs.SetLemmas.{same_test}
use Rattle.bug_fields.proofs.SoundLemmas.{agree}

-- one of two lists of numbers has a number of the other
pub any-from : (xs ns : List ℕ) (k : ℕ) → has xs k ≡ true → has ns k ≡ true → has_any xs ns ≡ true
any-from xs [] k h e = absurd (false≢true e)
any-from xs (n ∷ ns) k h e =
    elim (eqb n k) as (λ t. eqb n k ≡ t → (t || has ns k) ≡ true → (has xs n || has_any xs ns) ≡ true) [
      | true ↦ λ q _. ap (λ t. t || has_any xs ns) (ap (has xs) (eqb-true n k q) ∙ h)
      | false ↦ λ q e. or_right (has xs n) (has_any xs ns) (any-from xs ns k h e)
    ] refl e

pub any-of : (xs ns : List ℕ) → has_any xs ns ≡ true → (k : ℕ) × (has xs k ≡ true) × (has ns k ≡ true)
any-of xs [] e = absurd (false≢true e)
any-of xs (n ∷ ns) e =
    elim (has xs n) as (λ t. has xs n ≡ t → (t || has_any xs ns) ≡ true → (k : ℕ) × (has xs k ≡ true) × (has (n ∷ ns) k ≡ true)) [
      | true ↦ λ q _. (n, q, own n ns)
      | false ↦ λ q e. let r = any-of xs ns e in (r.0, r.1, or_right (eqb n r.0) (has ns r.0) r.2)
    ] refl e
  where
    own : (n : ℕ) (ns : List ℕ) → has (n ∷ ns) n ≡ true
    own n ns = ap (λ t. t || has ns n) (eq-eqb n n refl)

-- some listed bug passes a test
pub listed-from : (P : Bug → Bool) (bug : ℕ → Option Bug) (ns : List ℕ) (k : ℕ) (b : Bug) → has ns k ≡ true → bug k ≡ Some b
    → P b ≡ true → list_any P (bugs_at bug ns) ≡ true
listed-from P bug [] k b h e p = absurd (false≢true h)
listed-from P bug (n ∷ ns) k b h e p =
    elim (eqb n k) as (λ t. eqb n k ≡ t → (t || has ns k) ≡ true → list_any P (with_bug (bug n) (bugs_at bug ns)) ≡ true) [
      | true ↦ λ q _. ap (λ o. list_any P (with_bug o (bugs_at bug ns))) (ap bug (eqb-true n k q) ∙ e)
          ∙ ap (λ t. t || list_any P (bugs_at bug ns)) p
      | false ↦ λ q h. later (bug n) (listed-from P bug ns k b h e p)
    ] refl h
  where
    later : (o : Option Bug) → list_any P (bugs_at bug ns) ≡ true → list_any P (with_bug o (bugs_at bug ns)) ≡ true
    later None r = r
    later (Some c) r = or_right (P c) (list_any P (bugs_at bug ns)) r

pub listed-of : (P : Bug → Bool) (bug : ℕ → Option Bug) (ns : List ℕ) → list_any P (bugs_at bug ns) ≡ true → (k : ℕ) × (b : Bug)
    × (has ns k ≡ true) × (bug k ≡ Some b) × (P b ≡ true)
listed-of P bug [] e = absurd (false≢true e)
listed-of P bug (n ∷ ns) e = cases (λ r. listed-of P bug ns r) (bug n) refl e
  where
    Found : List ℕ → Type 0
    Found ks = (k : ℕ) × (b : Bug) × (has ks k ≡ true) × (bug k ≡ Some b) × (P b ≡ true)

    further : Found ns → Found (n ∷ ns)
    further r = (r.0, r.1, or_right (eqb n r.0) (has ns r.0) r.2, r.3, r.4)

    cases : (list_any P (bugs_at bug ns) ≡ true → Found ns) → (o : Option Bug) → bug n ≡ o
        → list_any P (with_bug o (bugs_at bug ns)) ≡ true → Found (n ∷ ns)
    cases later None q e = further (later e)
    cases later (Some c) q e =
        elim (P c) as (λ t. P c ≡ t → (t || list_any P (bugs_at bug ns)) ≡ true → Found (n ∷ ns)) [
          | true ↦ λ p _. (n, c, ap (λ t. t || has ns n) (eq-eqb n n refl), q, p)
          | false ↦ λ p e. further (later e)
        ] refl e

-- what holds of each bug holds of each listed one
pub each-listed : (P : Bug → Type 0) (bug : ℕ → Option Bug) (ns : List ℕ) → ((k : ℕ) (b : Bug) → bug k ≡ Some b → P b)
    → Each P (bugs_at bug ns)
each-listed P bug [] h = tt
each-listed P bug (n ∷ ns) h = cases (bug n) refl (each-listed P bug ns h)
  where
    cases : (o : Option Bug) → bug n ≡ o → Each P (bugs_at bug ns) → Each P (with_bug o (bugs_at bug ns))
    cases None q r = r
    cases (Some b) q r = (h n b q, r)

-- known bugs are those of the desk
pub bugs-known : (d : Desk) (is : List SetImage) (ns : List ℕ) → AllKnown d is ns → bugs_at (bug_in is) ns ≡ bugs_at d.bug ns
bugs-known d is [] k = refl
bugs-known d is (n ∷ ns) k = λ j. with_bug (k.0 j) (bugs-known d is ns k.1 j)

pub refusal-known : (refusal : Option Bug → ℕ → Option Refusal) (d : Desk) (is : List SetImage) (ns : List ℕ) → AllKnown d is ns
    → first_refusal refusal (bug_in is) ns ≡ first_refusal refusal d.bug ns
refusal-known refusal d is [] k = refl
refusal-known refusal d is (n ∷ ns) k = λ j. option_or (refusal (k.0 j) n) (refusal-known refusal d is ns k.1 j)

-- so do the refusals of the bugs themselves
pub bugs_refused-known : (may_be : Bool) (d : Desk) (is : List SetImage) (ns : List ℕ) → AllKnown d is ns
    → first_bug_refusal may_be (bug_in is) ns ≡ first_bug_refusal may_be d.bug ns
bugs_refused-known may_be d is [] k = refl
bugs_refused-known may_be d is (n ∷ ns) k =
    λ j. option_or (bug_refusal may_be (k.0 j) n) (bugs_refused-known may_be d is ns k.1 j)

-- of a sound desk: a bug is merged with a listed one where a listed one is merged with it
pub merged-listed : (d : Desk) (ns : List ℕ) (m : ℕ) (b : Bug) → IsSound d → d.bug m ≡ Some b
    → list_any (λ c. has c.merged m) (bugs_at d.bug ns) ≡ has_any b.merged ns
merged-listed d ns m b sound e = same_test (list_any (λ c. has c.merged m) (bugs_at d.bug ns)) (has_any b.merged ns) to from
  where
    to : list_any (λ c. has c.merged m) (bugs_at d.bug ns) ≡ true → has_any b.merged ns ≡ true
    to h =
        let r = listed-of (λ c. has c.merged m) d.bug ns h in
        let a = agree d sound r.0 m r.1 r.3 r.4 in
        any-from b.merged ns r.0
        (ap (λ (z : Bug). has z.merged r.0) (same_value b a.0 e a.1) ∙ ap (λ z. has z r.0) a.2 ∙ sound.own r.0 r.1 r.3) r.2

    from : has_any b.merged ns ≡ true → list_any (λ c. has c.merged m) (bugs_at d.bug ns) ≡ true
    from h =
        let r = any-of b.merged ns h in
        let a = agree d sound m r.0 b e r.1 in
        listed-from (λ c. has c.merged m) d.bug ns r.0 a.0 r.2 a.1 (ap (λ z. has z m) a.2 ∙ sound.own m b e)

-- where a number is merged with a listed bug it has a bug
pub merged-there : (d : Desk) (ns : List ℕ) (m : ℕ) → IsSound d → list_any (λ c. has c.merged m) (bugs_at d.bug ns) ≡ true
    → (b : Bug) × (d.bug m ≡ Some b)
merged-there d ns m sound h = let r = listed-of (λ c. has c.merged m) d.bug ns h in let a = agree d sound r.0 m r.1 r.3 r.4 in
    (a.0, a.1)

-- ---- listed bugs and the images that are meant

-- of images that are apart, each shows the bugs that it has
abbrev ShowsOwn : List SetImage → SetImage → Type 0
ShowsOwn is j = (k : ℕ) → has (numbers_of j.members) k ≡ true → (y : Member) × (bug_in is k ≡ Some (bug_of j y))

each-weaker : {T : Type 0} (P Q : T → Type 0) → ((x : T) → P x → Q x) → (xs : List T) → Each P xs → Each Q xs
each-weaker P Q f [] h = tt
each-weaker P Q f (x ∷ xs) h = (f x h.0, each-weaker P Q f xs h.1)

shows-own : (is : List SetImage) → AreApart is → Each (ShowsOwn is) is
shows-own [] a = tt
shows-own (j ∷ is) a = (
  (λ k h. let y = member-has j.members k h in (y.0, ap (λ o. option_or (option_map (bug_of j) o) (bug_in is k)) y.1)),
  each-weaker (ShowsOwn is) (ShowsOwn (j ∷ is))
      (λ l f k h. let y = f k h in (y.0, beside k (bug_of l y.0) y.1 (member_at j.members k) refl)) is (shows-own is a.1),
)
  where
    beside : (k : ℕ) (b : Bug) → bug_in is k ≡ Some b → (o : Option Member) → member_at j.members k ≡ o
        → bug_in (j ∷ is) k ≡ Some b
    beside k b q None r = ap (λ o. option_or (option_map (bug_of j) o) (bug_in is k)) r ∙ q
    beside k b q (Some y) r = absurd (none-some b (sym (a.0 k (has-member_some j.members k y r)) ∙ q))

-- some image that is meant passes a test of its fields exactly where some listed bug does
pub meant-listed : (P : Shared → Bool) (is : List SetImage) (ns : List ℕ) → AreApart is
    → list_any (λ j. P j.shared) (those_meant ns is) ≡ list_any (λ b. P b.shared) (bugs_at (bug_in is) ns)
meant-listed P is ns a =
    same_test (list_any (λ j. P j.shared) (those_meant ns is)) (list_any (λ b. P b.shared) (bugs_at (bug_in is) ns))
    (to is (shows-own is a)) (λ h. let r = listed-of (λ b. P b.shared) (bug_in is) ns h in from is r.0 r.1 r.2 r.3 r.4)
  where
    to : (js : List SetImage) → Each (ShowsOwn is) js → list_any (λ j. P j.shared) (those_meant ns js) ≡ true
        → list_any (λ b. P b.shared) (bugs_at (bug_in is) ns) ≡ true
    to [] f h = absurd (false≢true h)
    to (j ∷ js) f h =
        elim (is_meant ns j) as (λ t. is_meant ns j ≡ t
        → list_any (λ j. P j.shared) (cond t (j ∷ those_meant ns js) (those_meant ns js)) ≡ true
        → list_any (λ b. P b.shared) (bugs_at (bug_in is) ns) ≡ true) [
          | true ↦ λ q h. elim (P j.shared) as (λ t. P j.shared ≡ t → (t || list_any (λ j. P j.shared) (those_meant ns js)) ≡ true
              → list_any (λ b. P b.shared) (bugs_at (bug_in is) ns) ≡ true) [
                | true ↦ λ p _. let r = any-of (numbers_of j.members) ns q in let y = f.0 r.0 r.1 in
                    listed-from (λ b. P b.shared) (bug_in is) ns r.0 (bug_of j y.0) r.2 y.1 p
                | false ↦ λ p h. to js f.1 h
              ] refl h
          | false ↦ λ q h. to js f.1 h
        ] refl h

    from : (js : List SetImage) (k : ℕ) (b : Bug) → has ns k ≡ true → bug_in js k ≡ Some b → P b.shared ≡ true
        → list_any (λ j. P j.shared) (those_meant ns js) ≡ true
    from [] k b h e p = absurd (none-some b e)
    from (j ∷ js) k b h e p =
        elim (member_at j.members k) as (λ o. member_at j.members k ≡ o
        → option_or (option_map (bug_of j) o) (bug_in js k) ≡ Some b
        → list_any (λ j. P j.shared) (those_meant ns (j ∷ js)) ≡ true) [
          | None ↦ λ q e. later (is_meant ns j) (from js k b h e p)
          | Some x ↦ λ q e.
              ap (λ t. list_any (λ j. P j.shared) (cond t (j ∷ those_meant ns js) (those_meant ns js)))
              (any-from (numbers_of j.members) ns k (has-member_some j.members k x q) h)
              ∙ ap (λ t. t || list_any (λ j. P j.shared) (those_meant ns js)) (ap (λ (z : Bug). P z.shared) (same_Some _ _ e) ∙ p)
        ] refl e
      where
        later : (t : Bool) → list_any (λ j. P j.shared) (those_meant ns js) ≡ true
            → list_any (λ j. P j.shared) (cond t (j ∷ those_meant ns js) (those_meant ns js)) ≡ true
        later true r = or_right (P j.shared) (list_any (λ j. P j.shared) (those_meant ns js)) r
        later false r = r
