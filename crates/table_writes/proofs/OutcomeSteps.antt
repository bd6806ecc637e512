-- Outcomes with their numbers, one after another.
use Rattle.std.proofs.Common.{◌≡◌, ◌<◌, ◌+◌, ℕ, suc, add-one, List, [], ◌∷◌, ◌++◌, append_assoc, length, get_or, drop, drop-cons, sym, ap, ◌∙◌}
use Rattle.bug_record.specs.declared.outcome.Outcome.{Outcome}
use Rattle.table_encodings.specs.Outcomes.{numbered}
use Rattle.table_content.specs.View.{with_their_numbers}
use Rattle.table_content.specs.declared.edit.ToldOutcome.{ToldOutcome}

-- the one at a place, and those after it
here : (ts : List ToldOutcome) (at : ℕ) (t other : ToldOutcome) → at < length ts → t ≡ get_or ts at other → drop at ts ≡ t ∷ drop (at + 1) ts
here ts at t other low is = drop-cons ts at other low ∙ ap (λ u. u ∷ drop (suc at) ts) (sym is) ∙ ap (λ k. t ∷ drop k ts) (sym (add-one at))

-- one more outcome, and those that are left
pub one_more : (f : ℕ → List ℕ) (ts : List ToldOutcome) (at : ℕ) (t other : ToldOutcome) (os next : List Outcome) (o : Outcome) → at < length ts → t ≡ get_or ts at other
    → o ≡ numbered (f t.place) t.outcome → next ≡ os ++ o ∷ [] → next ++ with_their_numbers f (drop (at + 1) ts) ≡ os ++ with_their_numbers f (drop at ts)
one_more f ts at t other os next o low is same more =
    ap (λ xs. xs ++ with_their_numbers f (drop (at + 1) ts)) more
    ∙ append_assoc os (o ∷ []) (with_their_numbers f (drop (at + 1) ts))
    ∙ ap (λ x. os ++ x ∷ with_their_numbers f (drop (at + 1) ts)) same
    ∙ ap (λ us. os ++ with_their_numbers f us) (sym (here ts at t other low is))
