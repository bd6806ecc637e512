-- The images of the sets of named bugs, by which bugs are named and not how.
use Rattle.std.proofs.Common.{◌≡◌, ℕ, Bool, true, false, not, ◌||◌, ◌&&◌, List, [], ◌∷◌, sym, refl, ap, ◌∙◌}
use Rattle.std.specs.Prelude.{filter}
use Rattle.std.specs.List.{list_any}
use Rattle.std.specs.Ordering.{nat_cmp}
use Rattle.std.specs.BTreeMap.{is_at}
use Rattle.bug_record.specs.Sets.{has, number_set}
use Rattle.bug_record.specs.Images.{numbers_of}
use Rattle.bug_record.specs.declared.bug.Member.{Member}
use Rattle.bug_record.specs.declared.bug.SetImage.{SetImage}
use Rattle.bug_core.specs.Others.{is_any, has_any, is_meant, those_meant, others}
use Rattle.base_sequences.proofs.SetLemmas.{same_test}
use Rattle.bug_core.proofs.ListedLemmas.{any-from, any-of}
use Rattle.base_sequences.proofs.SetLemmas.{has-number_set}
use Rattle.base_sequences.proofs.OrderedLemmas.{has-key}

-- the same numbers name the same images
meant-same : (ns ks : List ℕ) → ((n : ℕ) → has ns n ≡ has ks n) → (i : SetImage) → is_meant ns i ≡ is_meant ks i
meant-same ns ks h i = same_test (is_meant ns i) (is_meant ks i)
    (λ e. let r = any-of (numbers_of i.members) ns e in any-from (numbers_of i.members) ks r.0 r.1 (sym (h r.0) ∙ r.2))
    (λ e. let r = any-of (numbers_of i.members) ks e in any-from (numbers_of i.members) ns r.0 r.1 (h r.0 ∙ r.2))

pub those-same : (ns ks : List ℕ) → ((n : ℕ) → has ns n ≡ has ks n) → (is : List SetImage) → those_meant ns is ≡ those_meant ks is
those-same ns ks h is = λ j. filter (λ i. meant-same ns ks h i j) is

pub others-same : (ns ks : List ℕ) → ((n : ℕ) → has ns n ≡ has ks n) → (is : List SetImage) → others ns is ≡ others ks is
others-same ns ks h is = λ j. filter (λ i. is_any i.members && not (meant-same ns ks h i j)) is

-- a list of one number
pub any-one : (xs : List ℕ) (n : ℕ) → has xs n ≡ has_any xs (n ∷ [])
any-one xs n = one (has xs n)
  where
    one : (t : Bool) → t ≡ (t || false)
    one true = refl
    one false = refl

-- whether a member has one of the numbers of a set
pub any-member : (ms : List Member) (ks : List ℕ)
    → list_any (λ m. list_any (is_at (nat_cmp m.number)) ks) ms ≡ has_any (numbers_of ms) ks
any-member ms ks = over ms ∙ same_test (has_any ks (numbers_of ms)) (has_any (numbers_of ms) ks)
    (λ e. let r = any-of ks (numbers_of ms) e in any-from (numbers_of ms) ks r.0 r.2 r.1)
    (λ e. let r = any-of (numbers_of ms) ks e in any-from ks (numbers_of ms) r.0 r.2 r.1)
  where
    over : (ms : List Member) → list_any (λ m. list_any (is_at (nat_cmp m.number)) ks) ms ≡ has_any ks (numbers_of ms)
    over [] = refl
    over (m ∷ ms) = λ j. has-key ks m.number j || over ms j

-- the set of a list of numbers
pub has-set : (ks ns : List ℕ) → ks ≡ number_set ns → (n : ℕ) → has ks n ≡ has ns n
has-set ks ns e n = ap (λ z. has z n) e ∙ has-number_set ns n
