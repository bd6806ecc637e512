-- What other rows of meta make of all that the tables say.
use Rattle.table_schema.proofs.Imports.{◌≡◌, ℕ, [], ◌∷◌, refl, ap, State, Changes, META, desk_schema, meta_cells, next_in, AreShown, seen}
use Rattle.table_schema.proofs.ContentLemmas.{remade}
use Rattle.table_schema.proofs.StatementLemmas.{Makes}

-- the next number that the row says
pub next_is : (s : State) (shown : AreShown s.now.trees) → (seen s).next ≡ shown.meta.0
next_is s shown = ap next_in shown.meta.1

pub meta_remade : (old new : State) (next : ℕ) → Changes desk_schema old.now new.now META (meta_cells next ∷ []) → AreShown old.now.trees → Makes old new (λ c. record c { next = next })
meta_remade old new next it shown =
    remade old new META (meta_cells next ∷ []) it
    (record { meta = (next, refl); sets = shown.sets; bugs = shown.bugs; marks = shown.marks; blocks = shown.blocks; nodes = shown.nodes; nearest = shown.nearest; affects = shown.affects; messages = shown.messages; outcomes = shown.outcomes; outcome_numbers = shown.outcome_numbers }) (λ c. record c { next = next }) refl
