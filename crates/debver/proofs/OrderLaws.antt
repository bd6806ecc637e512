-- The laws of both orders, which an impl of `Ord` owes: `text_cmp` is a total preorder, and
-- `total_cmp` a total order that tells apart all texts.

use Rattle.std.proofs.Common.{◌≡◌, ℕ, List, ◌↔◌, refl, ap, sym, ◌∙◌}
use Rattle.std.specs.Prelude.{bytes_eq, true}
use Rattle.std.specs.Cmp.{IsTotalOrder, nat_cmp_total, on_total, then_total, tied_itself}
use Rattle.std.specs.Cmp.Lexicographic.{nat_list_cmp_total, bytes_decides}
use Rattle.std.specs.Ordering.{ordering_then, is_eq, eq_by_cmp}
use Rattle.std.specs.declared.cmp.Ordering.{Ordering}
use Rattle.std.specs.declared.cmp.Ordering.TheVariants.{Less, Equal, Greater}
use Rattle.std.proofs.lemmas.Bool.Decides.{same_from_decides}
use Rattle.std.proofs.lemmas.Map.Lookups.{exact_bytes}
use Rattle.debver.specs.Cut.{cut}
use Rattle.debver.specs.Keys.{key}
use Rattle.debver.proofs.KeyLaws.{key_cmp_total}
use Rattle.debver.specs.Versions.{epoch_value, revision_or_zero, version_cmp, text_cmp, total_cmp}

pub version_cmp_total : IsTotalOrder version_cmp
version_cmp_total =
    then_total (on_total epoch_value nat_cmp_total)
    (then_total (on_total (λ v. key v.upstream) key_cmp_total) (on_total (λ v. key (revision_or_zero v)) key_cmp_total))

pub text_cmp_total : IsTotalOrder text_cmp
text_cmp_total = on_total cut version_cmp_total

pub total_cmp_total : IsTotalOrder total_cmp
total_cmp_total = then_total text_cmp_total nat_list_cmp_total

second_ties : (o p : Ordering) → ordering_then o p ≡ Equal → p ≡ Equal
second_ties Less p h = absurd (cc)
second_ties Equal p h = h
second_ties Greater p h = absurd (cc)

pub total_ties : (s t : List ℕ) → total_cmp s t ≡ Equal → s ≡ t
total_ties s t h = exact_bytes s t (second_ties (text_cmp s t) _ h)

pub total_ties_exactly : (s t : List ℕ) → (total_cmp s t ≡ Equal) ↔ (s ≡ t)
total_ties_exactly s t = (total_ties s t, λ e. ap (total_cmp s) (sym e) ∙ tied_itself total_cmp_total s)

eq_is : (o : Ordering) → is_eq o ≡ true → o ≡ Equal
eq_is Less h = absurd (cc)
eq_is Equal h = refl
eq_is Greater h = absurd (cc)

-- as a derived or written `eq` of texts compares them
pub total_eq : (s t : List ℕ) → bytes_eq s t ≡ eq_by_cmp total_cmp s t
total_eq s t =
    same_from_decides _ _ (bytes_decides s t)
    (λ h. total_ties s t (eq_is (total_cmp s t) h), λ e. ap is_eq ((total_ties_exactly s t).1 e))
