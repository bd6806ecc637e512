-- Members of images, and the images of a change that have a bug.
use Rattle.std.proofs.Common.{◌≡◌, ◌<◌, ℕ, Bool, true, false, cond, ◌||◌, eqb, List, [], ◌∷◌, Option, Some, None, sym, refl, ap}
use Rattle.std.proofs.Common.{◌∙◌, arith}
use Rattle.std.specs.Prelude.{option_map}
use Rattle.std.specs.Option.{option_or, option_and_then}
use Rattle.std.proofs.lemmas.Option.{same_Some, none-some}
use Rattle.std.proofs.lemmas.Bool.{false≢true, eq-eqb}
use Rattle.std.proofs.lemmas.Bool.Decides.{nat_tests}
use Rattle.bug_record.specs.Sets.{has, Each, AllAbove, IsAscending}
use Rattle.bug_record.specs.Images.{numbers_of, member_at, bug_of, bug_in, AreApart, image_with}
use Rattle.bug_record.specs.declared.bug.Bug.{Bug}
use Rattle.bug_record.specs.declared.bug.Member.{Member}
use Rattle.bug_record.specs.declared.bug.SetImage.{SetImage}
use Rattle.store_keys.specs.Keys.{first_number, key_of}

-- ---- values that may be none

pub none_from : {A : Type 0} (o : Option A) → ((a : A) → o ≡ Some a → ⊥) → o ≡ None
none_from None h = refl
none_from (Some a) h = absurd (h a refl)

-- what there is, of two steps
pub both_steps : {A B : Type 0} (f : A → Option B) (o : Option A) (b : B) → option_and_then f o ≡ Some b
    → (a : A) × (o ≡ Some a) × (f a ≡ Some b)
both_steps f None b h = absurd (none-some b h)
both_steps f (Some a) b h = (a, refl, h)

-- ---- members

pub has-member_some : (ms : List Member) (n : ℕ) (x : Member) → member_at ms n ≡ Some x → has (numbers_of ms) n ≡ true
has-member_some [] n x h = absurd (none-some x h)
has-member_some (m ∷ ms) n x h =
    elim (eqb m.number n) as (λ t. cond t (Some m) (member_at ms n) ≡ Some x → (t || has (numbers_of ms) n) ≡ true)
    [ true ↦ λ _. refl | false ↦ λ e. has-member_some ms n x e ] h

pub member-has : (ms : List Member) (n : ℕ) → has (numbers_of ms) n ≡ true → (x : Member) × (member_at ms n ≡ Some x)
member-has [] n h = absurd (false≢true h)
member-has (m ∷ ms) n h =
    elim (eqb m.number n) as (λ t. (t || has (numbers_of ms) n) ≡ true
    → (x : Member) × (cond t (Some m) (member_at ms n) ≡ Some x))
    [ true ↦ λ _. (m, refl) | false ↦ λ e. member-has ms n e ] h

no_member-has : (ms : List Member) (n : ℕ) → has (numbers_of ms) n ≡ false → member_at ms n ≡ None
no_member-has ms n h = none_from (member_at ms n) (λ x e. false≢true (sym h ∙ has-member_some ms n x e))

-- of members whose numbers ascend each is found by its number
past_first : (x : Member) (all ms : List Member) → AllAbove x.number (numbers_of ms)
    → Each (λ m. member_at all m.number ≡ Some m) ms → Each (λ m. member_at (x ∷ all) m.number ≡ Some m) ms
past_first x all [] above h = tt
past_first x all (m ∷ ms) above h = (
  ap (λ t. cond t (Some x) (member_at all m.number)) (apart x.number m.number above.0)
      ∙ h.0,
  past_first x all ms above.1 h.1,
)
  where
    apart : (a b : ℕ) → a < b → eqb a b ≡ false
    apart a b l = grind (arith, nat_tests)

pub each_found : (ms : List Member) → IsAscending (numbers_of ms) → Each (λ m. member_at ms m.number ≡ Some m) ms
each_found [] h = tt
each_found (x ∷ ms) h = (
  ap (λ t. cond t (Some x) (member_at ms x.number)) (eq-eqb x.number x.number refl),
  past_first x ms ms h.0
      (each_found ms h.1),
)

-- an image that has a bug has its first one
pub first-has : (i : SetImage) (n : ℕ) → has (numbers_of i.members) n ≡ true → has (numbers_of i.members) (key_of i) ≡ true
first-has i n h = cases i.members h
  where
    cases : (ms : List Member) → has (numbers_of ms) n ≡ true → has (numbers_of ms) (first_number ms) ≡ true
    cases [] h = absurd (false≢true h)
    cases (m ∷ ms) h = ap (λ t. t || has (numbers_of ms) m.number) (eq-eqb m.number m.number refl)

-- ---- the image that has a bug

pub image_with-has : (is : List SetImage) (n : ℕ) (i : SetImage) → image_with is n ≡ Some i → has (numbers_of i.members) n ≡ true
image_with-has [] n i h = absurd (none-some i h)
image_with-has (j ∷ is) n i h =
    elim (has (numbers_of j.members) n) as (λ t. has (numbers_of j.members) n ≡ t → cond t (Some j) (image_with is n) ≡ Some i
    → has (numbers_of i.members) n ≡ true) [
      | true ↦ λ e h. ap (λ (z : SetImage). has (numbers_of z.members) n) (sym (same_Some _ _ h)) ∙ e
      | false ↦ λ e h. image_with-has is n i h
    ] refl h

-- it is what shows the bug
pub bug_in-image_with : (is : List SetImage) (n : ℕ)
    → bug_in is n ≡ option_and_then (λ i. option_map (bug_of i) (member_at i.members n)) (image_with is n)
bug_in-image_with [] n = refl
bug_in-image_with (j ∷ is) n =
    elim (has (numbers_of j.members) n) as (λ t. has (numbers_of j.members) n ≡ t
    → bug_in (j ∷ is) n ≡ option_and_then (λ i. option_map (bug_of i) (member_at i.members n))
    (cond t (Some j) (image_with is n))) [
      | true ↦ λ e. let x = member-has j.members n e in
          ap (λ (o : Option Member). option_or (option_map (bug_of j) o) (bug_in is n)) x.1
          ∙ sym (ap (λ (o : Option Member). option_map (bug_of j) o) x.1)
      | false ↦ λ e. ap (λ (o : Option Member). option_or (option_map (bug_of j) o) (bug_in is n)) (no_member-has j.members n e)
          ∙ bug_in-image_with is n
    ] refl

pub bug_in-some : (is : List SetImage) (n : ℕ) (i : SetImage) → image_with is n ≡ Some i → (b : Bug) × (bug_in is n ≡ Some b)
bug_in-some is n i e =
    let x = member-has i.members n (image_with-has is n i e) in (
      bug_of i x.0,
      bug_in-image_with is n
          ∙ (ap (option_and_then (λ (j : SetImage). option_map (bug_of j) (member_at j.members n))) e
          ∙ ap (option_map (bug_of i)) x.1),
    )

pub bug_in-none : (is : List SetImage) (n : ℕ) → image_with is n ≡ None → bug_in is n ≡ None
bug_in-none is n e =
    bug_in-image_with is n ∙ ap (option_and_then (λ (j : SetImage). option_map (bug_of j) (member_at j.members n))) e

-- of images that are apart it is the same for each of its bugs
pub image_with-same : (is : List SetImage) (n m : ℕ) (i : SetImage) → AreApart is → image_with is n ≡ Some i
    → has (numbers_of i.members) m ≡ true → image_with is m ≡ Some i
image_with-same [] n m i apart h own = absurd (none-some i h)
image_with-same (j ∷ is) n m i apart h own =
    elim (has (numbers_of j.members) n) as (λ t. cond t (Some j) (image_with is n) ≡ Some i → image_with (j ∷ is) m ≡ Some i) [
      | true ↦ λ h. let same : j ≡ i = same_Some _ _ h in
          ap (λ t. cond t (Some j) (image_with is m)) (ap (λ (z : SetImage). has (numbers_of z.members) m) same ∙ own)
          ∙ ap Some same
      | false ↦ λ h. later (image_with-same is n m i apart.1 h own) (has (numbers_of j.members) m) refl
    ] h
  where
    later : image_with is m ≡ Some i → (t : Bool) → has (numbers_of j.members) m ≡ t → image_with (j ∷ is) m ≡ Some i
    later e true q = absurd (let b = bug_in-some is m i e in none-some b.0 (sym (apart.0 m q) ∙ b.1))
    later e false q = ap (λ t. cond t (Some j) (image_with is m)) q ∙ e
