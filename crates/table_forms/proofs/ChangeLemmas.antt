-- What a statement leaves of the tables that it doesn't change.
use Rattle.std.proofs.Common.{◌≡◌, ◌≢◌, ℕ, Bool, true, false, ◌||◌, ◌==◌, eqb, List, [], ◌∷◌, refl, sym, ◌∙◌}
use Rattle.std.specs.List.{AllByRecursion, list_any}
use Rattle.std.proofs.lemmas.Bool.{eq-eqb, true≢false}
use Rattle.sqlite.specs.Order.{Row}
use Rattle.sqlite.specs.Schema.{Schema}
use Rattle.sqlite.specs.Effect.{Database}
use Rattle.sqlite_schema.specs.declared.schema.Index.{Index}
use Rattle.table_forms.specs.Forms.{Changes}

-- whether an index has this tree
abbrev pub is_index : Schema → ℕ → Bool
is_index schema t = list_any (λ i. i.tree == t) schema.indexes

no_index : (t : ℕ) (indexes : List Index) → list_any (λ (i : Index). i.tree == t) indexes ≡ false → AllByRecursion (λ (i : Index). i.tree ≢ t) indexes
no_index t [] h = tt
no_index t (i ∷ indexes) h = go (eqb i.tree t) refl h (no_index t indexes)
  where
    go : (b : Bool) → eqb i.tree t ≡ b → (b || list_any (λ (j : Index). j.tree == t) indexes) ≡ false → (list_any (λ (j : Index). j.tree == t) indexes ≡ false → AllByRecursion (λ (j : Index). j.tree ≢ t) indexes)
        → AllByRecursion (λ (j : Index). j.tree ≢ t) (i ∷ indexes)
    go true is off more = absurd (true≢false off)
    go false is off more = ((λ same. true≢false (sym (eq-eqb i.tree t same) ∙ is)), more off)

-- another table, which is no index, has the rows that it had
pub stays : (schema : Schema) (old new : Database) (tree : ℕ) (rows : List Row) → Changes schema old new tree rows → (t : ℕ) → eqb t tree ≡ false → is_index schema t ≡ false → new.trees t ≡ old.trees t
stays schema old new tree rows it t other none = it.others t (λ same. true≢false (sym (eq-eqb t tree same) ∙ other)) (no_index t schema.indexes none)
