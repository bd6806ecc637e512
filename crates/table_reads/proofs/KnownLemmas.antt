-- What is known after an image is put.
use Rattle.std.proofs.Common.{◌≡◌, ◌≢◌, ℕ, suc, Bool, true, false, cond, ◌||◌, ◌&&◌, List, [], ◌∷◌, length, Option, Some, None, sym, refl, ap, subst, ◌∙◌, arith, inl, inr}
use Rattle.std.specs.Prelude.{◌==◌, ◌⊎◌, option_map}
use Rattle.std.specs.List.{list_all}
use Rattle.std.specs.Option.{option_and_then}
use Rattle.std.proofs.lemmas.Option.{same_Some, none-some}
use Rattle.std.proofs.lemmas.Bool.{false≢true, eqb-true}
use Rattle.std.proofs.lemmas.Bool.Decides.{nat_tests}
use Rattle.std.proofs.lemmas.Slice.Eq.{bytes_eq-Decides}
use Rattle.version_nodes.specs.Trees.{Ancestry}
use Rattle.bug_record.specs.Sets.{has}
use Rattle.bug_record.specs.Images.{numbers_of, member_at, bug_of, bug_in, CoverSets, image_with}
use Rattle.bug_record.specs.declared.bug.Bug.{Bug}
use Rattle.bug_record.specs.declared.bug.Member.{Member}
use Rattle.bug_record.specs.declared.bug.SetImage.{SetImage}
use Rattle.store_keys.specs.Keys.{Keyed, first_number, key_of, has_bug, keyed_desk, IsKeyed, image_at_key, set_after, after_images}
use Rattle.store_keys.proofs.ImageLemmas.{both_steps, bug_in-some, bug_in-none}
use Rattle.table_reads.specs.Known.{IsPartOf, IsLearnt}
use Rattle.table_reads.specs.BugTests.{image_at, is_no_image, is_small_image, is_image_of, is_known}
use Rattle.store_sets.specs.declared.bug_sets.BugSets.{BugSets}

abbrev pub Images : Type 0
Images = ℕ → Option SetImage

-- ---- parts

pub none_part : (a b : Images) → ((k : ℕ) → a k ≡ None) → IsPartOf a b
none_part a b none k i e = absurd (none-some i (sym (none k) ∙ e))

pub part_trans : (a b c : Images) → IsPartOf a b → IsPartOf b c → IsPartOf a c
part_trans a b c p q k i e = q k i (p k i e)

pub after_part : (is : List SetImage) (a b : Images) → IsPartOf a b → IsPartOf (set_after is a) (set_after is b)
after_part is a b p k i = elim (image_with is k) as (λ o. image_at_key k (a k) o ≡ Some i → image_at_key k (b k) o ≡ Some i) [
  | None ↦ λ e. p k i e
  | Some j ↦ λ e. e
]

pub after_more : (i : SetImage) (is : List SetImage) (a : Images) → IsPartOf (set_after (i ∷ []) (set_after is a)) (set_after (i ∷ is) a)
after_more i is a k j = elim (has (numbers_of i.members) k) as (λ t. image_at_key k (set_after is a k) (cond t (Some i) None) ≡ Some j
    → image_at_key k (a k) (cond t (Some i) (image_with is k)) ≡ Some j) [
      | true ↦ λ e. e
      | false ↦ λ e. e
    ]

pub after_all : (i : SetImage) (is : List SetImage) (a b c : Images) → IsPartOf b (set_after is a) → IsPartOf c (set_after (i ∷ []) b) → IsPartOf c (set_after (i ∷ is) a)
after_all i is a b c p q k j e = after_more i is a k j (after_part (i ∷ []) b (set_after is a) p k j (q k j e))

pub after_learnt : (j : SetImage) (a b : Images) → IsPartOf b (set_after (j ∷ []) a) → IsLearnt (key_of j) j a b
after_learnt j a b p k i e = cases (has (numbers_of j.members) k) (p k i e)
  where
    given : (t : Bool) → (key_of j == k) ≡ t → cond t (Some j) None ≡ Some i → (a k ≡ Some i) ⊎ ((key_of j ≡ k) × (key_of j ≡ k) × (j ≡ i))
    given true q w = (let same = eqb-true (key_of j) k q in inr (same, same, same_Some _ _ w))
    given false q w = absurd (none-some i w)

    cases : (t : Bool) → image_at_key k (a k) (cond t (Some j) None) ≡ Some i → (a k ≡ Some i) ⊎ ((key_of j ≡ k) × (key_of j ≡ k) × (j ≡ i))
    cases false w = inl w
    cases true w = given (key_of j == k) refl w

pub same_learnt : (j : SetImage) (a b : Images) → IsPartOf b a → IsLearnt (key_of j) j a b
same_learnt j a b p k i e = inl (p k i e)

-- under a key that is its own
pub learnt_under : (key : ℕ) (j : SetImage) (a b : Images) → key ≡ key_of j → IsLearnt (key_of j) j a b → IsLearnt key j a b
learnt_under key j a b own h = subst (λ n. IsLearnt n j a b) (sym own) h

-- nothing is learnt
pub none_learnt : (key : ℕ) (j : SetImage) (a : Images) → IsLearnt key j a a
none_learnt key j a k i e = inl e

-- an image was put, as the only one of a list
pub put_part : (j : SetImage) (is : List SetImage) (old new : Keyed) → is ≡ j ∷ [] → new ≡ after_images old is → IsPartOf new.set (set_after (j ∷ []) old.set)
put_part j is old new only e k i h =
    subst (λ (l : List SetImage). set_after l old.set k ≡ Some i) only (sym (ap (λ (b : Keyed). b.set k) e) ∙ h)

pub put_keeps : (j : SetImage) (is : List SetImage) (old new : Keyed) → is ≡ j ∷ [] → new ≡ after_images old is → IsPartOf old.set (set_after (j ∷ []) old.set) → IsPartOf old.set new.set
put_keeps j is old new only e keeps k i h =
    ap (λ (b : Keyed). b.set k) e ∙ subst (λ (l : List SetImage). set_after l old.set k ≡ Some i) (sym only) (keeps k i h)

pub put_same : (old new : Keyed) → new ≡ old → IsPartOf new.set old.set
put_same old new e k i h = sym (ap (λ (b : Keyed). b.set k) e) ∙ h

-- ---- tests

both : (a b : Bool) → (a && b) ≡ true → (a ≡ true) × (b ≡ true)
both true b e = (refl, e)
both false b e = absurd (false≢true e)

first_or_later : (a b : Bool) (P : Type 0) → (a || b) ≡ true → (a ≡ true → P) → (b ≡ true → P) → P
first_or_later true b P h p q = p refl
first_or_later false b P h p q = q h

two_numbers : (k : ℕ) → (suc (suc k) == 1) ≡ true → ⊥
two_numbers k e = grind (arith, nat_tests)

-- what is said of each member is said of each of their numbers
pub of_number : (f : ℕ → Bool) (ms : List Member) → list_all (λ (m : Member). f m.number) ms ≡ true → (n : ℕ) → has (numbers_of ms) n ≡ true → f n ≡ true
of_number f [] all n h = absurd (false≢true h)
of_number f (m ∷ ms) all n h =
    let it = both (f m.number) (list_all (λ (m : Member). f m.number) ms) all in
    first_or_later (m.number == n) (has (numbers_of ms) n) (f n ≡ true) h (λ q. ap f (sym (eqb-true m.number n q)) ∙ it.0) (λ w. of_number f ms it.1 n w)

-- a set of one bug has one number
one_number : (ms : List Member) (n m : ℕ) → (length ms == 1) ≡ true → has (numbers_of ms) n ≡ true → has (numbers_of ms) m ≡ true → n ≡ m
one_number [] n m one p q = absurd (false≢true p)
one_number (x ∷ []) n m one p q =
    let it : (k : ℕ) → ((x.number == k) || false) ≡ true → x.number ≡ k =
    λ k h. first_or_later (x.number == k) false (x.number ≡ k) h (eqb-true x.number k) (λ w. absurd (false≢true w)) in
    sym (it n p) ∙ it m q
one_number (x ∷ y ∷ ms) n m one p q = absurd (two_numbers (length ms) one)

merged_is : (i : SetImage) (n : ℕ) (b : Bug) → option_map (bug_of i) (member_at i.members n) ≡ Some b → numbers_of i.members ≡ b.merged
merged_is i n b = elim (member_at i.members n) as (λ o. option_map (bug_of i) o ≡ Some b → numbers_of i.members ≡ b.merged) [
  | None ↦ λ e. absurd (none-some b e)
  | Some x ↦ λ e. ap (λ (a : Bug). a.merged) (same_Some _ _ e)
]

-- the test of a known set, where this image stands at its first bug
abbrev pub known_test : Option SetImage → List Member → Bool
known_test o [] = false
known_test o (m ∷ ms) = is_image_of (numbers_of (m ∷ ms)) o

module _ (key : ℕ → Option ℕ) (set : Images) (keyed : IsKeyed key set) (j : SetImage) where
  abbrev at : ℕ → Option SetImage
  at n = option_and_then set (key n)

  -- a known bug's set is one that has it
  at_set : (n : ℕ) (i : SetImage) → at n ≡ Some i → (k : ℕ) × (set k ≡ Some i) × (has (numbers_of i.members) n ≡ true)
  at_set n i e =
      let p = both_steps set (key n) i e in
      (p.0, p.2, sym (ap (λ o. has_bug o n) p.2) ∙ keyed.found n p.0 p.1)

  -- and each bug of that set is known by it
  of_set : (n : ℕ) (k : ℕ) (i : SetImage) → set k ≡ Some i → has (numbers_of i.members) n ≡ true → at n ≡ Some i
  of_set n k i e h = ap (option_and_then set) (keyed.known n k i e h) ∙ e

  has_it : (n : ℕ) → bug_in (j ∷ []) n ≢ None → has (numbers_of j.members) n ≡ true
  has_it n some = cases (has (numbers_of j.members) n) refl
    where
      cases : (t : Bool) → has (numbers_of j.members) n ≡ t → t ≡ true
      cases true q = refl
      cases false q = absurd (some (bug_in-none (j ∷ []) n (ap (λ t. cond t (Some j) None) q)))

  in_it : (n : ℕ) → has (numbers_of j.members) n ≡ true → bug_in (j ∷ []) n ≢ None
  in_it n h none = let b = bug_in-some (j ∷ []) n j (ap (λ t. cond t (Some j) None) h) in none-some b.0 (sym none ∙ b.1)

  -- it covers the sets that are known, where it has those that it meets
  covers : ((n m : ℕ) (i : SetImage) → has (numbers_of j.members) n ≡ true → at n ≡ Some i → has (numbers_of i.members) m ≡ true → has (numbers_of j.members) m ≡ true)
      → (tree : Ancestry) (next : ℕ) → CoverSets (keyed_desk key set tree next) (j ∷ [])
  covers h tree next n m b e some merged =
      let p = both_steps (λ (i : SetImage). option_map (bug_of i) (member_at i.members n)) (at n) b e in
      in_it m (h n m p.0 (has_it n some) p.1 (ap (λ ns. has ns m) (merged_is p.0 n b p.2) ∙ merged))

  -- no bug of it is known
  unknown : list_all (λ (m : Member). is_no_image (at m.number)) j.members ≡ true → (n : ℕ) (i : SetImage) → has (numbers_of j.members) n ≡ true → at n ≡ Some i → ⊥
  unknown none n i h e = false≢true (sym (ap is_no_image e) ∙ of_number (λ k. is_no_image (at k)) j.members none n h)

  pub unknown_covers : list_all (λ (m : Member). is_no_image (at m.number)) j.members ≡ true → (tree : Ancestry) (next : ℕ) → CoverSets (keyed_desk key set tree next) (j ∷ [])
  unknown_covers none = covers (λ n m i h e merged. absurd (unknown none n i h e))

  pub unknown_keeps : list_all (λ (m : Member). is_no_image (at m.number)) j.members ≡ true → IsPartOf set (set_after (j ∷ []) set)
  unknown_keeps none k i e = cases (has (numbers_of j.members) k) refl
    where
      cases : (t : Bool) → has (numbers_of j.members) k ≡ t → image_at_key k (set k) (cond t (Some j) None) ≡ Some i
      cases true h = absurd (unknown none k i h (of_set k k i e (keyed.own k i e)))
      cases false h = e

  -- each bug of it is by itself, or not known
  pub alone_covers : list_all (λ (m : Member). is_small_image (at m.number)) j.members ≡ true → (tree : Ancestry) (next : ℕ) → CoverSets (keyed_desk key set tree next) (j ∷ [])
  alone_covers alone = covers (λ n m i h e merged.
      let p = at_set n i e in
      let one : (length i.members == 1) ≡ true = sym (ap is_small_image e) ∙ of_number (λ k. is_small_image (at k)) j.members alone n h in
      subst (λ x. has (numbers_of j.members) x ≡ true) (one_number i.members n m one p.2 merged) h)

  -- its bugs are a set that is known
  pub same_covers : (i : SetImage) → at (key_of j) ≡ Some i → numbers_of i.members ≡ numbers_of j.members → (tree : Ancestry) (next : ℕ) → CoverSets (keyed_desk key set tree next) (j ∷ [])
  same_covers i e same = covers (λ n m other h e' merged.
      let p = at_set (key_of j) i e in
      let mine : at n ≡ Some i = of_set n p.0 i p.1 (ap (λ ns. has ns n) same ∙ h) in
      let is : other ≡ i = same_Some _ _ (sym e' ∙ mine) in
      sym (ap (λ ns. has ns m) same) ∙ (ap (λ (x : SetImage). has (numbers_of x.members) m) (sym is) ∙ merged))

  -- so says the test
  pub known_covers : (ms : List Member) → ms ≡ j.members → known_test (at (first_number ms)) ms ≡ true → (tree : Ancestry) (next : ℕ) → CoverSets (keyed_desk key set tree next) (j ∷ [])
  known_covers [] is known = absurd (false≢true known)
  known_covers (m ∷ ms) is known = cases (at m.number) refl known
    where
      cases : (o : Option SetImage) → at m.number ≡ o → is_image_of (numbers_of (m ∷ ms)) o ≡ true → (tree : Ancestry) (next : ℕ) → CoverSets (keyed_desk key set tree next) (j ∷ [])
      cases None e t = absurd (false≢true t)
      cases (Some i) e t =
          same_covers i (ap (λ (l : List Member). at (first_number l)) (sym is) ∙ e)
          ((bytes_eq-Decides (numbers_of i.members) (numbers_of (m ∷ ms))).0 t ∙ ap numbers_of is)

pub known_is : (bugs : BugSets) (ms : List Member) → is_known bugs ms ≡ known_test (image_at bugs (first_number ms)) ms
known_is bugs [] = refl
known_is bugs (m ∷ ms) = refl
