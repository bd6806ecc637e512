-- The numbers that images name as blockers: as numbers are added, as images are put, and where none
-- waits.
use Rattle.std.proofs.Common.{◌≡◌, ℕ, ◌+◌, ◌<◌, ◌≤◌, Bool, true, false, cond, eqb, List, [], ◌∷◌, length, drop, get_or, Option, Some, None}
use Rattle.std.proofs.Common.{Result, Ok, Err, OnOk, OnErr, refl, sym, ap, ◌∙◌, subst, inl, inr, ⊎_elim}
use Rattle.std.specs.Prelude.{nat_eq, option_map, filter}
use Rattle.std.specs.Option.{option_and_then}
use Rattle.std.proofs.lemmas.Bool.{cases_Bool, eqb-true, eq-eqb, false≢true, or_cases}
use Rattle.std.proofs.lemmas.List.{at_drop_more, at_drop_all}
use Rattle.std.proofs.lemmas.Option.{none-some, same_Some}
use Rattle.version_nodes.specs.Trees.{Ancestry}
use Rattle.bug_record.specs.Asked.{passes}
use Rattle.bug_record.specs.Sets.{has, Each, numbers_below}
use Rattle.bug_record.specs.Images.{numbers_of, member_at, bug_of, image_with}
use Rattle.bug_record.specs.Waiting.{waiting_on}
use Rattle.bug_record.specs.declared.bug.Member.{Member}
use Rattle.bug_record.specs.declared.bug.SetImage.{SetImage}
use Rattle.bug_record.specs.declared.bug.Shared.{Shared}
use Rattle.store_keys.specs.Keys.{Keyed, key_of, keyed_desk, image_at_key, after_images}
use Rattle.store_sets.specs.Named.{NamesAmong, AreNamed}
use Rattle.store_keys.proofs.ImageLemmas.{both_steps}

-- all that f has, g has too
abbrev pub IsWithin : (ℕ → Bool) → (ℕ → Bool) → Type 0
IsWithin f g = (n : ℕ) → f n ≡ true → g n ≡ true

-- ---- numbers that are added

-- one more number is there
pub one_more : (f g : ℕ → Bool) (x : ℕ) → ((n : ℕ) → g n ≡ cond (nat_eq x n) true (f n)) → IsWithin f g × (g x ≡ true)
one_more f g x added = (
  λ n h. added n ∙ either (nat_eq x n) n h,
  added x ∙ ap (λ b. cond b true (f x)) (eq-eqb x x refl),
)
  where
    either : (b : Bool) (n : ℕ) → f n ≡ true → cond b true (f n) ≡ true
    either true n h = refl
    either false n h = h

-- what has the numbers from this place on has those from the one before, where it has the one there
pub more_numbers : (f : ℕ → Bool) (ns : List ℕ) (i : ℕ) → i < length ns → f (get_or ns i 0) ≡ true
    → IsWithin (has (drop (i + 1) ns)) f → IsWithin (has (drop i ns)) f
more_numbers f ns i l here rest n h =
    elim (or_cases (eqb (get_or ns i 0) n) (has (drop (i + 1) ns) n) (sym (at_drop_more (λ ms. has ms n) ns i 0 l) ∙ h)) [
      | inl a ↦ ap f (sym (eqb-true (get_or ns i 0) n a)) ∙ here
      | inr b ↦ rest n b
    ]

pub no_more_numbers : (f : ℕ → Bool) (ns : List ℕ) (i : ℕ) → length ns ≤ i → IsWithin (has (drop i ns)) f
no_more_numbers f ns i far n h = absurd (false≢true (sym (at_drop_all (λ ms. has ms n) ns i far) ∙ h))

-- the same of images
pub more_images : (f : ℕ → Bool) (is : List SetImage) (i : ℕ) (x : SetImage) → i < length is → x ≡ get_or is i x → NamesAmong f x
    → Each (NamesAmong f) (drop (i + 1) is) → Each (NamesAmong f) (drop i is)
more_images f is i x l here named rest =
    subst (Each (NamesAmong f)) (sym (at_drop_more (λ js. js) is i x l ∙ ap (λ j. j ∷ drop (i + 1) is) (sym here))) (named, rest)

pub no_more_images : (f : ℕ → Bool) (is : List SetImage) (i : ℕ) → length is ≤ i → Each (NamesAmong f) (drop i is)
no_more_images f is i far = subst (Each (NamesAmong f)) (sym (at_drop_all (λ js. js) is i far)) tt

-- ---- images that are put

image_named : (f : ℕ → Bool) (is : List SetImage) (k : ℕ) (i : SetImage) → Each (NamesAmong f) is → image_with is k ≡ Some i → NamesAmong f i
image_named f [] k i all e = absurd (none-some i e)
image_named f (j ∷ is) k i all e =
    elim (has (numbers_of j.members) k) as (λ t. cond t (Some j) (image_with is k) ≡ Some i → NamesAmong f i) [
      | true ↦ λ e. subst (NamesAmong f) (same_Some _ _ e) all.0
      | false ↦ λ e. image_named f is k i all.1 e
    ] e

at_key : (f : ℕ → Bool) (k : ℕ) (old o : Option SetImage) (i : SetImage) → ((j : SetImage) → old ≡ Some j → NamesAmong f j)
    → ((j : SetImage) → o ≡ Some j → NamesAmong f j) → image_at_key k old o ≡ Some i → NamesAmong f i
at_key f k old None i was new e = was i e
at_key f k old (Some j) i was new e =
    elim (eqb (key_of j) k) as (λ t. cond t (Some j) None ≡ Some i → NamesAmong f i) [
      | true ↦ λ e. new i e
      | false ↦ λ e. absurd (none-some i e)
    ] e

pub named_within : (set : ℕ → Option SetImage) (f g : ℕ → Bool) → IsWithin f g → AreNamed set f → AreNamed set g
named_within set f g within are k i e n h = within n (are k i e n h)

-- after images are put, or where there was no memory for them
pub named_put : {A E : Type 0} (old now : Keyed) (is : List SetImage) (f g : ℕ → Bool) (r : Result A E) → AreNamed old.set f
    → IsWithin f g → Each (NamesAmong g) is → OnOk r (now ≡ after_images old is) → OnErr r (now ≡ old) → AreNamed now.set g
named_put old now is f g (Ok x) are within all ok err =
    subst (λ (b : Keyed). AreNamed b.set g) (sym ok)
    (λ k i e. at_key g k (old.set k) (image_with is k) i (named_within old.set f g within are k) (λ j h. image_named g is k j all h) e)
named_put old now is f g (Err x) are within all ok err =
    subst (λ (b : Keyed). AreNamed b.set g) (sym err) (named_within old.set f g within are)

-- ---- none waits on a number that is not named

none_pass : (p : ℕ → Bool) → ((n : ℕ) → p n ≡ false) → (ns : List ℕ) → filter p ns ≡ []
none_pass p none [] = refl
none_pass p none (n ∷ ns) = ap (λ b. cond b (n ∷ filter p ns) (filter p ns)) (none n) ∙ none_pass p none ns

not_named : (f : ℕ → Bool) (i : SetImage) (n : ℕ) → NamesAmong f i → f n ≡ false → has i.shared.blockers n ≡ false
not_named f i n named off =
    ⊎_elim (λ yes. absurd (false≢true (sym off ∙ named n yes))) (λ no. no) (cases_Bool (has i.shared.blockers n))

pub none_wait : (key : ℕ → Option ℕ) (set : ℕ → Option SetImage) (f : ℕ → Bool) (n : ℕ) → AreNamed set f → f n ≡ false
    → (tree : Ancestry) (next : ℕ) → waiting_on (keyed_desk key set tree next) n ≡ []
none_wait key set f n are off tree next = none_pass _ (λ m. each m (option_and_then set (key m)) refl) (numbers_below next)
  where
    waits : Shared → Bool
    waits shared = has shared.blockers n

    as_member : (i : SetImage) (o : Option Member) → has i.shared.blockers n ≡ false → passes waits (option_map (bug_of i) o) ≡ false
    as_member i None h = refl
    as_member i (Some m) h = h

    each : (m : ℕ) (o : Option SetImage) → option_and_then set (key m) ≡ o
        → passes waits (option_and_then (λ i. option_map (bug_of i) (member_at i.members m)) o) ≡ false
    each m None e = refl
    each m (Some i) e =
        let s = both_steps set (key m) i e in
        as_member i (member_at i.members m) (not_named f i n (are s.0 i s.2) off)
