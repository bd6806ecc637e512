-- Members by number: ordered maps of std, by the ascending lists of this project.
use Rattle.std.proofs.Common.{◌≡◌, ◌<◌, ℕ, Bool, true, false, cond, ◌||◌, List, [], ◌∷◌, Some, sym, refl, ap, ◌∙◌, subst, arith}
use Rattle.std.specs.Prelude.{◌==◌, nat_lt, is_some}
use Rattle.std.specs.Ordering.{is_eq, match_ordering, nat_cmp}
use Rattle.std.specs.declared.cmp.Ordering.{Ordering}
use Rattle.std.specs.declared.cmp.Ordering.TheVariants.{Less, Equal, Greater}
use Rattle.std.specs.Map.{lookup, values_of}
use Rattle.std.specs.BTreeMap.{is_at, insert_entry}
use Rattle.std.proofs.lemmas.Bool.{false≢true, lt-ltb, or_parts}
use Rattle.std.proofs.lemmas.Bool.Decides.{nat_tests}
use Rattle.bug_record.specs.Sets.{has, Each, IsAscending, with_item}
use Rattle.bug_record.specs.Images.{numbers_of}
use Rattle.bug_record.specs.declared.bug.Member.{Member}
use Rattle.base_sequences.proofs.SetLemmas.{has-above}
use Rattle.base_sequences.proofs.OrderedLemmas.{eq_cmp, chosen}
use Rattle.bug_core.specs.Joins.{number_of, IsEntry, AreByNumber}
use Rattle.bug_core.proofs.MemberLemmas.{ascending-with_item}

pub has-lookup : (es : List (ℕ × Member)) (k : ℕ) → Each IsEntry es
    → is_some (lookup (is_at (nat_cmp k)) es) ≡ has (numbers_of (values_of es)) k
has-lookup [] k h = refl
has-lookup (e ∷ es) k h =
    ap (λ t. is_some (cond t (Some e.1) (lookup (is_at (nat_cmp k)) es))) (eq_cmp k e.0 ∙ ap (λ n. n == k) h.0)
    ∙ either (e.1.number == k) ∙ ap (λ t. (e.1.number == k) || t) (has-lookup es k h.1)
  where
    either : (t : Bool) → is_some (cond t (Some e.1) (lookup (is_at (nat_cmp k)) es))
        ≡ (t || is_some (lookup (is_at (nat_cmp k)) es))
    either true = refl
    either false = refl

-- a member of a new number
pub values-insert : (es : List (ℕ × Member)) (m : Member) → Each IsEntry es → has (numbers_of (values_of es)) m.number ≡ false
    → values_of (insert_entry nat_cmp es m.number m) ≡ with_item number_of (values_of es) m
values-insert [] m h n = refl
values-insert (e ∷ es) m h n =
    let p = or_parts (e.1.number == m.number) (has (numbers_of (values_of es)) m.number) n in
    shown (nat_cmp m.number e.0)
    ∙ ap (λ z. match_ordering (nat_cmp m.number z) (m ∷ values_of (e ∷ es)) (m ∷ values_of es)
    (e.1 ∷ values_of (insert_entry nat_cmp es m.number m))) h.0
    ∙ chosen m.number e.1.number (m ∷ values_of (e ∷ es)) (m ∷ values_of es)
    (e.1 ∷ values_of (insert_entry nat_cmp es m.number m))
    ∙ (λ j. cond (nat_lt e.1.number m.number) (e.1 ∷ values-insert es m h.1 p.1 j)
    (cond (p.0 j) (m ∷ values_of es) (m ∷ values_of (e ∷ es))))
    ∙ (λ j. cond (nat_lt e.1.number m.number) (e.1 ∷ with_item number_of (values_of es) m)
    (cond (sym p.0 j) (values_of (e ∷ es)) (m ∷ values_of (e ∷ es))))
  where
    shown : (o : Ordering)
        → values_of (match_ordering o ((m.number, m) ∷ e ∷ es) ((e.0, m) ∷ es) (e ∷ insert_entry nat_cmp es m.number m))
        ≡ match_ordering o (m ∷ values_of (e ∷ es)) (m ∷ values_of es) (e.1 ∷ values_of (insert_entry nat_cmp es m.number m))
    shown Less = refl
    shown Equal = refl
    shown Greater = refl

pub entries-insert : (es : List (ℕ × Member)) (m : Member) → Each IsEntry es → has (numbers_of (values_of es)) m.number ≡ false
    → Each IsEntry (insert_entry nat_cmp es m.number m)
entries-insert [] m h n = (refl, tt)
entries-insert (e ∷ es) m h n =
    let p = or_parts (e.1.number == m.number) (has (numbers_of (values_of es)) m.number) n in
    cases p.0 (entries-insert es m h.1 p.1) (nat_cmp m.number e.0) refl
  where
    cases : (e.1.number == m.number) ≡ false → Each IsEntry (insert_entry nat_cmp es m.number m) → (o : Ordering)
        → nat_cmp m.number e.0 ≡ o
        → Each IsEntry (match_ordering o ((m.number, m) ∷ e ∷ es) ((e.0, m) ∷ es) (e ∷ insert_entry nat_cmp es m.number m))
    cases q r Less w = (refl, h)
    cases q r Equal w = absurd (false≢true (sym q ∙ ap (λ z. z == m.number) (sym h.0) ∙ sym (eq_cmp m.number e.0) ∙ ap is_eq w))
    cases q r Greater w = (h.0, r)

-- a member of a number that is there
pub with_item-there : (ms : List Member) (m : Member) → IsAscending (numbers_of ms) → has (numbers_of ms) m.number ≡ true
    → with_item number_of ms m ≡ ms
with_item-there [] m a h = absurd (false≢true h)
with_item-there (y ∷ ys) m a h =
    elim (y.number == m.number) as (λ t. (y.number == m.number) ≡ t → (t || has (numbers_of ys) m.number) ≡ true
    → cond (nat_lt y.number m.number) (y ∷ with_item number_of ys m) (cond t (y ∷ ys) (m ∷ y ∷ ys)) ≡ y ∷ ys) [
      | true ↦ λ e _. ap (λ t. cond t (y ∷ with_item number_of ys m) (y ∷ ys)) (level y.number m.number e)
      | false ↦ λ e h.
          let l : y.number < m.number = has-above (numbers_of ys) y.number m.number a.0 h in
          ap (λ t. cond t (y ∷ with_item number_of ys m) (m ∷ y ∷ ys)) (lt-ltb y.number m.number l)
          ∙ ap (λ zs. y ∷ zs) (with_item-there ys m a.1 h)
    ] refl h
  where
    level : (x k : ℕ) → (x == k) ≡ true → nat_lt x k ≡ false
    level x k e = grind (arith, nat_tests)

-- the same where a look-up finds none
pub values-new : (es : List (ℕ × Member)) (m : Member) → AreByNumber es → is_some (lookup (is_at (nat_cmp m.number)) es) ≡ false
    → values_of (insert_entry nat_cmp es m.number m) ≡ with_item number_of (values_of es) m
values-new es m h none = values-insert es m h.keys (sym (has-lookup es m.number h.keys) ∙ none)

pub keyed-new : (es : List (ℕ × Member)) (m : Member) → AreByNumber es → is_some (lookup (is_at (nat_cmp m.number)) es) ≡ false
    → AreByNumber (insert_entry nat_cmp es m.number m)
keyed-new es m h none = record {
  keys = entries-insert es m h.keys (sym (has-lookup es m.number h.keys) ∙ none);
  ascending = subst (λ ms. IsAscending (numbers_of ms)) (sym (values-new es m h none))
      (ascending-with_item (values_of es) m h.ascending);
}
