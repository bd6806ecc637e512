-- The numbers of members and of images, joined one after another.
use Rattle.std.proofs.Common.{◌≡◌, ◌<◌, ◌+◌, ℕ, Bool, true, false, ◌||◌, ◌&&◌, List, ◌∷◌, Option, Some, None, length, drop}
use Rattle.std.proofs.Common.{get_or, sym, refl, ap, ◌∙◌, subst}
use Rattle.std.specs.Prelude.{option_map, is_some, ◌==◌}
use Rattle.std.proofs.lemmas.List.{at_drop_more}
use Rattle.std.proofs.lemmas.Bool.{eqb-true}
use Rattle.bug_record.specs.Sets.{has, IsAscending, with_item}
use Rattle.bug_record.specs.Images.{numbers_of, member_at, bug_of, bug_in}
use Rattle.std.specs.Option.{option_or}
use Rattle.bug_record.specs.declared.bug.Member.{Member}
use Rattle.bug_record.specs.declared.bug.SetImage.{SetImage}
use Rattle.bug_images.specs.Numbers.{IsJoined}
use Rattle.base_sequences.proofs.SetLemmas.{has-with_item, IsAscending-with_item}
use Rattle.bug_images.proofs.ImageLemmas.{has-member_some, has-member_none}

-- what an image shows, and what those after it show
pub is_some-first : (i : SetImage) (is : List SetImage) (n : ℕ)
    → is_some (bug_in (i ∷ is) n) ≡ (has (numbers_of i.members) n || is_some (bug_in is n))
is_some-first i is n = cases (member_at i.members n) refl
  where
    cases : (o : Option Member) → member_at i.members n ≡ o
        → is_some (option_or (option_map (bug_of i) (member_at i.members n)) (bug_in is n))
        ≡ (has (numbers_of i.members) n || is_some (bug_in is n))
    cases None e = ap (λ (o : Option Member). is_some (option_or (option_map (bug_of i) o) (bug_in is n))) e
        ∙ sym (ap (λ t. t || is_some (bug_in is n)) (has-member_none i.members n e))
    cases (Some x) e = ap (λ (o : Option Member). is_some (option_or (option_map (bug_of i) o) (bug_in is n))) e
        ∙ sym (ap (λ t. t || is_some (bug_in is n)) (has-member_some i.members n x e))

-- a number that passes a test is joined, and of one that does not nothing is
pub join-number : (D : ℕ → Bool) (set joined : List ℕ) (k : ℕ) → D k ≡ true → joined ≡ with_item (λ n. n) set k
    → IsJoined set (λ n. (k == n) && D n) joined
join-number D set joined k d e = record {
  ascending = λ a. subst IsAscending (sym e) (IsAscending-with_item set k a);
  numbers = λ n. ap (λ z. has z n) e ∙ has-with_item set k n
      ∙ ap (λ t. has set n || t)
      (elim (k == n) as (λ t. (k == n) ≡ t → t ≡ (t && D n)) [ true ↦ λ q. sym d ∙ ap D (eqb-true k n q) | false ↦ λ _. refl ]
      refl);
}

pub join-none : (D : ℕ → Bool) (set joined : List ℕ) (k : ℕ) → D k ≡ false → joined ≡ set
    → IsJoined set (λ n. (k == n) && D n) joined
join-none D set joined k d e = record {
  ascending = λ a. subst IsAscending (sym e) a;
  numbers = λ n. ap (λ z. has z n) e
      ∙ sym (ap (λ t. has set n || t)
      (elim (k == n) as (λ t. (k == n) ≡ t → (t && D n) ≡ false)
      [ true ↦ λ q. ap D (sym (eqb-true k n q)) ∙ d | false ↦ λ _. refl ] refl) ∙ or_none (has set n));
}
  where
    or_none : (a : Bool) → (a || false) ≡ a
    or_none true = refl
    or_none false = refl

or_group : (a b c d : Bool) → ((a || (b && d)) || (c && d)) ≡ (a || ((b || c) && d))
or_group true b c d = refl
or_group false true c true = refl
or_group false true true false = refl
or_group false true false false = refl
or_group false false c d = refl

-- one member more
pub join-member : (D : ℕ → Bool) (set joined : List ℕ) (ms : List Member) (k : ℕ) (m : Member) → k < length ms → m ≡ get_or ms k m
    → IsJoined set (λ n. (m.number == n) && D n) joined
    → (n : ℕ) → (has joined n || (has (numbers_of (drop (k + 1) ms)) n && D n))
    ≡ (has set n || (has (numbers_of (drop k ms)) n && D n))
join-member D set joined ms k m l e q n =
    ap (λ t. t || (rest && D n)) (q.numbers n) ∙ or_group (has set n) (m.number == n) rest (D n)
    ∙ ap (λ (z : Member). has set n || (((z.number == n) || rest) && D n)) e
    ∙ sym (ap (λ t. has set n || (t && D n)) (at_drop_more (λ (z : List Member). has (numbers_of z) n) ms k m l))
  where
    rest : Bool
    rest = has (numbers_of (drop (k + 1) ms)) n

-- one image more
pub join-image : (D : ℕ → Bool) (set joined : List ℕ) (is : List SetImage) (k : ℕ) (i : SetImage) → k < length is
    → i ≡ get_or is k i → IsJoined set (λ n. has (numbers_of i.members) n && D n) joined
    → (n : ℕ) → (has joined n || (is_some (bug_in (drop (k + 1) is) n) && D n))
    ≡ (has set n || (is_some (bug_in (drop k is) n) && D n))
join-image D set joined is k i l e q n =
    ap (λ t. t || (rest && D n)) (q.numbers n) ∙ or_group (has set n) (has (numbers_of i.members) n) rest (D n)
    ∙ ap (λ t. has set n || (t && D n))
    (sym (is_some-first i (drop (k + 1) is) n) ∙ ap (λ (z : SetImage). is_some (bug_in (z ∷ drop (k + 1) is) n)) e
    ∙ sym (at_drop_more (λ (z : List SetImage). is_some (bug_in z n)) is k i l))
  where
    rest : Bool
    rest = is_some (bug_in (drop (k + 1) is) n)
