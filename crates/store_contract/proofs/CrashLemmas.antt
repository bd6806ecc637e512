-- What a crash leaves after calls of a store.
use Rattle.std.proofs.Common.{◌≡◌, ◌⊎◌, inl, inr, sym, subst}
use Rattle.store_contract.specs.Crashes.{Holding}
use Rattle.store_contract.specs.Store.{Holds}

-- what is so of one of two that are the same is so of the first
pub or_other : {A B : Type 0} → A ⊎ A → A ⊎ B
or_other (inl a) = inl a
or_other (inr a) = inl a

module _ {S : Type 0} (k h : S → Type 0) (l : S → Holding → Holding → Type 0) (either : (s : S) (a b : Holding) → l s a a → l s a b) where
  -- a call that failed, and changed nothing
  pub failed_none : (old new : S) (after : Holding) → new ≡ old
      → Holds k h old new ((before : Holding) → l old before before → l new before after)
  failed_none old new after same =
      subst (λ s. Holds k h old s ((before : Holding) → l old before before → l s before after)) (sym same)
      (record { honest = λ w. w; kept = λ u w. u; fact = λ u w before alone. either old before after alone })

  -- the same, where the tables were kept at an earlier moment
  pub failed_since : (earlier old new : S) (after : Holding) {P : Type 0} → new ≡ old → Holds k h earlier old P
      → Holds k h earlier new ((before : Holding) → l old before before → l new before after)
  failed_since earlier old new after same since =
      subst (λ s. Holds k h earlier s ((before : Holding) → l old before before → l s before after)) (sym same)
      (record { honest = since.honest; kept = since.kept; fact = λ u w before alone. either old before after alone })
