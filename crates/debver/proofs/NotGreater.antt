-- The order of versions in words of not being greater.

use Rattle.std.proofs.Common.{◌≡◌, ◌≢◌, ◌⊎◌, false, refl, inl, inr}
use Rattle.std.specs.Ordering.{ordering_reverse, is_gt}
use Rattle.std.specs.declared.cmp.Ordering.{Ordering}
use Rattle.std.specs.declared.cmp.Ordering.TheVariants.{Less, Equal, Greater}

pub not_greater : (o : Ordering) → o ≢ Greater → is_gt o ≡ false
not_greater Less h = refl
not_greater Equal h = refl
not_greater Greater h = absurd (h refl)

pub no_greater : (o : Ordering) → is_gt o ≡ false → o ≢ Greater
no_greater Less h e = absurd (cc)
no_greater Equal h e = absurd (cc)
no_greater Greater h e = absurd (cc)

pub one_of : (o p : Ordering) → o ≡ ordering_reverse p → (o ≢ Greater) ⊎ (p ≢ Greater)
one_of o Less h = inr (λ e. cc)
one_of o Equal h = inr (λ e. cc)
one_of o Greater h = inl (λ e. cc)
