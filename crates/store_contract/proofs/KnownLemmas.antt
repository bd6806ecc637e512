-- Names that are known, names that stand more than once, and names that can be given.
use Rattle.std.proofs.Common.{◌≡◌, ◌<◌, ◌≤◌, ◌+◌, ℕ, Bool, true, false, cond, ◌||◌, List, [], ◌∷◌, ◌++◌, length, get_or, take, drop}
use Rattle.std.proofs.Common.{Option, Some, None, Result, Ok, Err, refl, sym, ap, subst, ◌∙◌, arith, append_assoc, drop-cons, add-one, length-drop}
use Rattle.std.specs.Prelude.{◌==◌, nat_eq, nat_lt, count_by, option_map, is_some, zip, min, if◌then◌else◌, ⊤}
use Rattle.std.specs.List.{find}
use Rattle.std.specs.Map.{lookup}
use Rattle.std.specs.Result.{IsOk, OnOk}
use Rattle.std.specs.Ordering.{is_eq, nat_cmp}
use Rattle.std.proofs.lemmas.Bool.{lt-ltb, le-ltb, eq-eqb, eqb-true, ltb-true, ltb-false, or_parts, false≢true}
use Rattle.std.proofs.lemmas.Bool.Decides.{nat_tests}
use Rattle.std.proofs.lemmas.List.{take_more, nil_from_length}
use Rattle.std.proofs.lemmas.List.Sums.{sum_by-append, sum_by-cons}
use Rattle.std.proofs.lemmas.Option.{none-some}
use Rattle.std.proofs.lemmas.Slice.Zip.{length-zip}
use Rattle.bug_record.specs.Clones.{is_taken, name_refusal}
use Rattle.bug_record.specs.Sets.{has}
use Rattle.bug_record.specs.Words.{Names, number_of_name}
use Rattle.bug_record.specs.declared.command.Refusal.TheVariants.{NameTaken}

-- what a call promises that has a value
pub from_ok : {A E : Type 0} (r : Result A E) (P : Type 0) → IsOk r → OnOk r P → P
from_ok (Ok x) P k h = h
from_ok (Err e) P k h = absurd (false≢true k)

-- what a map has at a name
pub number-got : (names : Names) (k : ℕ) → lookup (nat_eq k) names ≡ number_of_name names k
number-got [] k = refl
number-got (p ∷ names) k = λ i. if turned k p.0 i then Some p.1 else number-got names k i
  where
    turned : (a b : ℕ) → nat_eq a b ≡ nat_eq b a
    turned a b = grind (arith, nat_tests)

-- how often a name stands in a list
abbrev times : List ℕ → ℕ → ℕ
times ks k = count_by (λ j. j == k) ks

-- one name more
times-more : (ks : List ℕ) (i k name : ℕ) → i < length ks → name ≡ get_or ks i 0
    → times (take (i + 1) ks) k ≡ times (take i ks) k + (if name == k then 1 else 0)
times-more ks i k name l e =
    ap (λ xs. times xs k) (take_more ks i 0 l ∙ ap (λ x. take i ks ++ x ∷ []) (sym e))
    ∙ (sum_by-append (λ (j : ℕ). if j == k then 1 else 0) (take i ks) (name ∷ [])
    ∙ ap (λ n. times (take i ks) k + n) (omega arith))

times-same : (ks : List ℕ) (i k name : ℕ) → i < length ks → name ≡ get_or ks i 0 → (name == k) ≡ true
    → times (take (i + 1) ks) k ≡ times (take i ks) k + 1
times-same ks i k name l e q = times-more ks i k name l e ∙ ap (λ (t : Bool). times (take i ks) k + (if t then 1 else 0)) q

times-other : (ks : List ℕ) (i k name : ℕ) → i < length ks → name ≡ get_or ks i 0 → (name == k) ≡ false
    → times (take (i + 1) ks) k ≡ times (take i ks) k
times-other ks i k name l e q =
    times-more ks i k name l e ∙ (ap (λ (t : Bool). times (take i ks) k + (if t then 1 else 0)) q ∙ omega arith)

is_eq-same : (a b : ℕ) → is_eq (nat_cmp a b) ≡ (a == b)
is_eq-same a b = grind (arith, nat_tests)

-- the names that have been seen
pub seen-more : (ks : List ℕ) (i name : ℕ) (old new : ℕ → Bool) → i < length ks → name ≡ get_or ks i 0
    → ((k : ℕ) → new k ≡ cond (is_eq (nat_cmp name k)) true (old k))
    → ((k : ℕ) → old k ≡ nat_lt 0 (count_by (λ j. j == k) (take i ks)))
    → (k : ℕ) → new k ≡ nat_lt 0 (count_by (λ j. j == k) (take (i + 1) ks))
seen-more ks i name old new l e u h k =
    u k ∙ (ap (λ (t : Bool). cond t true (old k)) (is_eq-same name k)
    ∙ elim (name == k) as (λ t. (name == k) ≡ t → cond t true (old k) ≡ nat_lt 0 (times (take (i + 1) ks) k)) [
      | true ↦ λ q.
          let n = times-same ks i k name l e q in
          sym (lt-ltb 0 (times (take (i + 1) ks) k) (omega (arith, n)))
      | false ↦ λ q. h k ∙ ap (nat_lt 0) (sym (times-other ks i k name l e q))
    ] refl)

-- those that have been seen twice, after a name that was seen before
pub twice-more : (ks : List ℕ) (i name : ℕ) (seen old new : ℕ → Bool) → i < length ks → name ≡ get_or ks i 0
    → ((k : ℕ) → new k ≡ cond (is_eq (nat_cmp name k)) true (old k))
    → ((k : ℕ) → seen k ≡ nat_lt 0 (count_by (λ j. j == k) (take i ks))) → seen name ≡ true
    → ((k : ℕ) → old k ≡ nat_lt 1 (count_by (λ j. j == k) (take i ks)))
    → (k : ℕ) → new k ≡ nat_lt 1 (count_by (λ j. j == k) (take (i + 1) ks))
twice-more ks i name seen old new l e u s again h k =
    u k ∙ (ap (λ (t : Bool). cond t true (old k)) (is_eq-same name k)
    ∙ elim (name == k) as (λ t. (name == k) ≡ t → cond t true (old k) ≡ nat_lt 1 (times (take (i + 1) ks) k)) [
      | true ↦ λ q.
          let n = times-same ks i k name l e q in
          let before : nat_lt 0 (times (take i ks) k) ≡ true = sym (s k) ∙ (ap seen (sym (eqb-true name k q)) ∙ again) in
          let some : 0 < times (take i ks) k = ltb-true 0 (times (take i ks) k) before in
          sym (lt-ltb 1 (times (take (i + 1) ks) k) (omega (arith, n)))
      | false ↦ λ q. h k ∙ ap (nat_lt 1) (sym (times-other ks i k name l e q))
    ] refl)

-- and after one that was not
pub once-more : (ks : List ℕ) (i name : ℕ) (seen old : ℕ → Bool) → i < length ks → name ≡ get_or ks i 0
    → ((k : ℕ) → seen k ≡ nat_lt 0 (count_by (λ j. j == k) (take i ks))) → seen name ≡ false
    → ((k : ℕ) → old k ≡ nat_lt 1 (count_by (λ j. j == k) (take i ks)))
    → (k : ℕ) → old k ≡ nat_lt 1 (count_by (λ j. j == k) (take (i + 1) ks))
once-more ks i name seen old l e s first h k =
    h k ∙ elim (name == k) as (λ t. (name == k) ≡ t → nat_lt 1 (times (take i ks) k) ≡ nat_lt 1 (times (take (i + 1) ks) k)) [
      | true ↦ λ q.
          let n = times-same ks i k name l e q in
          let before : nat_lt 0 (times (take i ks) k) ≡ false = sym (s k) ∙ (ap seen (sym (eqb-true name k q)) ∙ first) in
          let none : times (take i ks) k ≤ 0 = ltb-false 0 (times (take i ks) k) before in
          le-ltb 1 (times (take i ks) k) (omega arith) ∙ sym (le-ltb 1 (times (take (i + 1) ks) k) (omega (arith, n)))
      | false ↦ λ q. ap (nat_lt 1) (sym (times-other ks i k name l e q))
    ] refl

-- these names can be given: none is known, and none stands twice
abbrev pub AreFree : Names → List ℕ → Type 0
AreFree names [] = ⊤
AreFree names (k ∷ ks) = (number_of_name names k ≡ None) × (has ks k ≡ false) × AreFree names ks

-- the first name of a list, and those after it
times-first : (j : ℕ) (ks : List ℕ) (k : ℕ) → times (j ∷ ks) k ≡ (if j == k then 1 else 0) + times ks k
times-first j ks k = sum_by-cons (λ (i : ℕ). if i == k then 1 else 0) j ks

-- a name that stands nowhere
stands-nowhere : (ks : List ℕ) (k : ℕ) → times ks k ≡ 0 → has ks k ≡ false
stands-nowhere [] k e = refl
stands-nowhere (j ∷ ks) k e =
    elim (j == k) as (λ t. (if t then 1 else 0) + times ks k ≡ 0 → (t || has ks k) ≡ false)
    [ true ↦ λ e. absurd (omega arith) | false ↦ λ e. stands-nowhere ks k (omega arith) ] (sym (times-first j ks k) ∙ e)

none-there : (o : Option ℕ) → is_some o ≡ false → o ≡ None
none-there None e = refl
none-there (Some n) e = absurd (cc)

unmapped : (o : Option ℕ) → option_map NameTaken o ≡ None → o ≡ None
unmapped None e = refl
unmapped (Some n) e = absurd (none-some (NameTaken n) (sym e))

fewer : (j : ℕ) (ks : List ℕ) (k n : ℕ) → times (j ∷ ks) k ≤ n → times ks k ≤ n
fewer j ks k n h = omega (arith, times-first j ks k)

-- names none of which is refused
pub all-free : (names : Names) (ks : List ℕ) → name_refusal names ks ≡ None → AreFree names ks
all-free names ks e = go ks (λ k. omega arith) (unmapped (find (is_taken names ks) ks) e)
  where
    go : (rest : List ℕ) → ((k : ℕ) → times rest k ≤ times ks k) → find (is_taken names ks) rest ≡ None → AreFree names rest
    go [] below e = tt
    go (k ∷ rest) below e =
        elim (is_taken names ks k) as (λ t. is_taken names ks k ≡ t → cond t (Some k) (find (is_taken names ks) rest) ≡ None
        → AreFree names (k ∷ rest)) [
          | true ↦ λ q e. absurd (none-some k (sym e))
          | false ↦ λ q e.
              let parts = or_parts (is_some (number_of_name names k)) (nat_lt 1 (times ks k)) q in
              let once : times ks k ≤ 1 = ltb-false 1 (times ks k) parts.1 in
              let here : times (k ∷ rest) k ≡ 1 + times rest k
              = times-first k rest k ∙ ap (λ (t : Bool). (if t then 1 else 0) + times rest k) (eq-eqb k k refl) in
              let within : times (k ∷ rest) k ≤ times ks k = below k in (
                none-there (number_of_name names k) parts.0,
                stands-nowhere rest k (omega arith),
                go rest (λ j. fewer k rest j (times ks j) (below j)) e,
              )
        ] refl e

-- a name that is given is another than those after it
number-after : (names : Names) (k n j : ℕ) → number_of_name names j ≡ None → (j == k) ≡ false
    → number_of_name (names ++ (k, n) ∷ []) j ≡ None
number-after [] k n j e other = ap (λ (t : Bool). if t then Some n else None) (turned k j other)
  where
    turned : (k j : ℕ) → (j == k) ≡ false → (k == j) ≡ false
    turned k j h = grind (arith, nat_tests)
number-after (p ∷ names) k n j e other =
    elim (p.0 == j) as (λ t. (if t then Some p.1 else number_of_name names j) ≡ None
    → (if t then Some p.1 else number_of_name (names ++ (k, n) ∷ []) j) ≡ None)
    [ true ↦ λ e. e | false ↦ λ e. number-after names k n j e other ] e

pub free-after : (names : Names) (k n : ℕ) (rest : List ℕ) → has rest k ≡ false → AreFree names rest
    → AreFree (names ++ (k, n) ∷ []) rest
free-after names k n [] h f = tt
free-after names k n (j ∷ rest) h f =
    let parts = or_parts (j == k) (has rest k) h in
    (number-after names k n j f.0 parts.0, f.1, free-after names k n rest parts.1 f.2)

-- the first of the names that are left
names-left : (ks : List ℕ) (i k : ℕ) → i < length ks → k ≡ get_or ks i 0 → drop i ks ≡ k ∷ drop (i + 1) ks
names-left ks i k l e = drop-cons ks i 0 l ∙ (λ j. sym e j ∷ drop (sym (add-one i) j) ks)

-- one that can be given is not the first that can't
pub find-next : (test : ℕ → Bool) (ks : List ℕ) (i k : ℕ) → i < length ks → k ≡ get_or ks i 0 → test k ≡ false
    → find test (drop (i + 1) ks) ≡ find test (drop i ks)
find-next test ks i k l e passes =
    sym (ap (find test) (names-left ks i k l e) ∙ ap (λ (t : Bool). cond t (Some k) (find test (drop (i + 1) ks))) passes)

-- and one that can't is
pub find-here : (test : ℕ → Bool) (ks : List ℕ) (i k : ℕ) → i < length ks → k ≡ get_or ks i 0 → test k ≡ true
    → find test (drop i ks) ≡ Some k
find-here test ks i k l e fails =
    ap (find test) (names-left ks i k l e) ∙ ap (λ (t : Bool). cond t (Some k) (find test (drop (i + 1) ks))) fails

-- the names that are left, before one is given
pub is-left : (names : Names) (ks : List ℕ) (i k : ℕ) → i < length ks → k ≡ get_or ks i 0 → AreFree names (drop i ks)
    → AreFree names (k ∷ drop (i + 1) ks)
is-left names ks i k l e f = subst (AreFree names) (names-left ks i k l e) f

-- and the pairs
pub pairs-left : (names : Names) (ks ns : List ℕ) (i k n : ℕ) → i < length ks → i < length ns → k ≡ get_or ks i 0 → n ≡ get_or ns i 0
    → (names ++ (k, n) ∷ []) ++ zip (drop (i + 1) ks) (drop (i + 1) ns) ≡ names ++ zip (drop i ks) (drop i ns)
pairs-left names ks ns i k n l m e f =
    append_assoc names ((k, n) ∷ []) (zip (drop (i + 1) ks) (drop (i + 1) ns))
    ∙ (λ j. names ++ zip (sym (names-left ks i k l e) j) (sym (names-left ns i n m f) j))

-- at the end of either list no pair is left
pub none-left : (ks ns : List ℕ) (i : ℕ) → i ≡ min (length ks) (length ns) → zip (drop i ks) (drop i ns) ≡ []
none-left ks ns i e =
    nil_from_length (zip (drop i ks) (drop i ns))
    (length-zip (drop i ks) (drop i ns) ∙ ((λ j. min (length-drop i ks j) (length-drop i ns j)) ∙ omega arith))
