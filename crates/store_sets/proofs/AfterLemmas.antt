-- The keys and images of a map into which images were put, or in which nothing changed.
use Rattle.std.proofs.Common.{◌≡◌, ℕ, true, false, cond, eqb, List, [], ◌∷◌, Option, Some, None, Result, Ok, Err, OnOk, OnErr, sym, ◌∙◌, ap, subst, refl}
use Rattle.std.specs.Prelude.{option_map, nat_eq}
use Rattle.std.specs.Option.{option_or, option_and_then}
use Rattle.std.specs.HashMap.{HashMap, get}
use Rattle.std.proofs.lemmas.Bool.{eqb-true}
use Rattle.version_nodes.specs.Trees.{no_nodes}
use Rattle.bug_record.specs.Sets.{has}
use Rattle.bug_record.specs.Images.{numbers_of, AreApart, CoverSets, bug_in, image_with}
use Rattle.bug_record.specs.declared.bug.SetImage.{SetImage}
use Rattle.store_keys.specs.Keys.{Keyed, key_of, keyed_bug, keyed_desk, IsKeyed, key_after, image_at_key, set_after, after_images}
use Rattle.store_sets.specs.Places.{key_at, image_at, keys, sets}
use Rattle.store_sets.specs.PlacesOfImages.{place_of, place_in}
use Rattle.store_sets.specs.declared.places.Place.{Place}
use Rattle.store_sets.specs.declared.places.Place.TheVariants.{First, After}
use Rattle.store_keys.proofs.KeyLemmas.{keyed-after, bug-after}

abbrev pub keyed_by : {S : Type 0} → HashMap ℕ Place S → Keyed
keyed_by bugs = record { key = keys bugs; set = sets bugs }

abbrev Fit : Keyed → Type 0
Fit b = IsKeyed b.key b.set

-- ---- maps with the same places

pub same_sets : {S : Type 0} (now old : HashMap ℕ Place S) → ((n : ℕ) → get nat_eq now n ≡ get nat_eq old n)
    → keyed_by now ≡ keyed_by old
same_sets now old h =
    λ i. record { key = λ n. option_map (key_at n) (h n i); set = λ k. option_and_then image_at (h k i) }

-- ---- a map after images

place_in-image_with : (is : List SetImage) (n : ℕ) → place_in is n ≡ option_map (λ i. place_of i n) (image_with is n)
place_in-image_with [] n = refl
place_in-image_with (i ∷ is) n =
    elim (has (numbers_of i.members) n) as
    (λ t. cond t (Some (place_of i n)) (place_in is n) ≡ option_map (λ j. place_of j n) (cond t (Some i) (image_with is n)))
    [ true ↦ refl | false ↦ place_in-image_with is n ]

abbrev pub IsAfter : {S : Type 0} → HashMap ℕ Place S → List SetImage → HashMap ℕ Place S → Type 0
IsAfter old is now = (n : ℕ) → get nat_eq now n ≡ option_or (place_in is n) (get nat_eq old n)

key-after : (n : ℕ) (o : Option SetImage) (old : Option Place)
    → option_map (key_at n) (option_or (option_map (λ i. place_of i n) o) old)
    ≡ option_or (option_map key_of o) (option_map (key_at n) old)
key-after n None old = refl
key-after n (Some i) old =
    elim (eqb (key_of i) n) as (λ t. eqb (key_of i) n ≡ t
    → Some (key_at n (cond t (First i) (After (key_of i)))) ≡ Some (key_of i))
    [ true ↦ λ e. ap Some (sym (eqb-true (key_of i) n e)) | false ↦ λ e. refl ] refl

set-after : (k : ℕ) (o : Option SetImage) (old : Option Place)
    → option_and_then image_at (option_or (option_map (λ i. place_of i k) o) old)
    ≡ image_at_key k (option_and_then image_at old) o
set-after k None old = refl
set-after k (Some i) old =
    elim (eqb (key_of i) k) as (λ t. image_at (cond t (First i) (After (key_of i))) ≡ cond t (Some i) None)
    [ true ↦ refl | false ↦ refl ]

pub sets_after : {S : Type 0} (old now : HashMap ℕ Place S) (is : List SetImage) → IsAfter old is now
    → keyed_by now ≡ after_images (keyed_by old) is
sets_after old now is h = λ i. record { key = λ n. key n i; set = λ k. set k i }
  where
    at : (n : ℕ) → get nat_eq now n ≡ option_or (option_map (λ i. place_of i n) (image_with is n)) (get nat_eq old n)
    at n = h n ∙ ap (λ (o : Option Place). option_or o (get nat_eq old n)) (place_in-image_with is n)

    key : (n : ℕ) → keys now n ≡ key_after is (keys old) n
    key n = ap (option_map (key_at n)) (at n) ∙ key-after n (image_with is n) (get nat_eq old n)

    set : (k : ℕ) → sets now k ≡ set_after is (sets old) k
    set k = ap (option_and_then image_at) (at k) ∙ set-after k (image_with is k) (get nat_eq old k)

module _ {S : Type 0} (old now : HashMap ℕ Place S) (is : List SetImage) (apart : AreApart is)
    (whole : CoverSets (keyed_desk (keys old) (sets old) no_nodes 0) is) (keyed : IsKeyed (keys old) (sets old)) where
  -- keys and images fit again, also where there was no memory
  pub fit-put : {A E : Type 0} (r : Result A E) → OnOk r (IsAfter old is now)
      → OnErr r ((n : ℕ) → get nat_eq now n ≡ get nat_eq old n) → IsKeyed (keys now) (sets now)
  fit-put (Ok x) h g =
      subst Fit (sym (sets_after old now is h)) (keyed-after (keys old) (sets old) keyed is no_nodes 0 apart whole)
  fit-put (Err e) h g = subst Fit (sym (same_sets now old g)) keyed

  -- each bug after the images
  pub bugs-after : IsAfter old is now → (n : ℕ)
      → keyed_bug (keys now) (sets now) n ≡ option_or (bug_in is n) (keyed_bug (keys old) (sets old) n)
  bugs-after h n =
      ap (λ (b : Keyed). keyed_bug b.key b.set n) (sets_after old now is h)
      ∙ bug-after (keys old) (sets old) keyed is no_nodes 0 apart whole n
