-- The tables of the schema are plain ones.
use Rattle.table_schema.proofs.Imports.{◌≡◌, inl, inr, ℕ, List, [], ◌∷◌, Bool, true, false, not, ◌&&◌, eqb, IsTrue, refl, sym, subst, true≢false, AllByRecursion, eq-eqb, Row, State, Table, Keeps, references_fit, Unique, IsAscending, HasNoReferences, IsPlainTable, meta_table, sets_table, bugs_table, marks_table, blocks_table, nodes_table, nearest_table, affects_table, messages_table, outcomes_table, outcome_numbers_table, desk_schema, IsInside}

every : (rows : List Row) → AllByRecursion (λ _. true ≡ true) rows
every [] = tt
every (r ∷ rows) = (refl, every rows)

no_references : HasNoReferences desk_schema
no_references = record { refers = λ db. (every _, (every _, (every _, (every _, (every _, (every _, (every _, (every _, (every _, (every _, (every _, tt))))))))))) }

abbrev is_apart : ℕ → List Table → Bool
is_apart tree [] = true
is_apart tree (t ∷ tables) = not (eqb tree t.tree) && is_apart tree tables

abbrev are_apart : List Table → Bool
are_apart [] = true
are_apart (t ∷ tables) = is_apart t.tree tables && are_apart tables

parts : (a b : Bool) → (a && b) ≡ true → (a ≡ true) × (b ≡ true)
parts true b on = (refl, on)
parts false b on = absurd (true≢false (sym on))

not_equal : (a b : ℕ) → not (eqb a b) ≡ true → a ≡ b → ⊥
not_equal a b apart same = true≢false (sym (subst (λ c. not c ≡ true) (eq-eqb a b same) apart))

one_apart : (table : Table) (tables : List Table) → is_apart table.tree tables ≡ true → AllByRecursion (λ t. table.tree ≡ t.tree → ⊥) tables
one_apart table [] h = tt
one_apart table (t ∷ tables) h = let p = parts (not (eqb table.tree t.tree)) (is_apart table.tree tables) h in (not_equal table.tree t.tree p.0, one_apart table tables p.1)

all_apart : (tables : List Table) → are_apart tables ≡ true → IsAscending (λ a b. a.tree ≡ b.tree → ⊥) tables
all_apart [] h = tt
all_apart (t ∷ tables) h = let p = parts (is_apart t.tree tables) (are_apart tables) h in (one_apart t tables p.0, all_apart tables p.1)

four : (f : Bool → Bool → Bool) → f true true ≡ true → f true false ≡ true → f false true ≡ true → f false false ≡ true → (a b : Bool) → f a b ≡ true
four f tt' tf ft ff true true = tt'
four f tt' tf ft ff true false = tf
four f tt' tf ft ff false true = ft
four f tt' tf ft ff false false = ff

pub meta_plain : IsPlainTable desk_schema meta_table
meta_plain = record { apart = all_apart desk_schema.tables refl; listed = inl refl; refers = four (references_fit desk_schema meta_table) refl refl refl refl; none = no_references }

pub sets_plain : IsPlainTable desk_schema sets_table
sets_plain = record { apart = all_apart desk_schema.tables refl; listed = inr (inl refl); refers = four (references_fit desk_schema sets_table) refl refl refl refl; none = no_references }

pub bugs_plain : IsPlainTable desk_schema bugs_table
bugs_plain = record { apart = all_apart desk_schema.tables refl; listed = inr (inr (inl refl)); refers = four (references_fit desk_schema bugs_table) refl refl refl refl; none = no_references }

pub marks_plain : IsPlainTable desk_schema marks_table
marks_plain = record { apart = all_apart desk_schema.tables refl; listed = inr (inr (inr (inl refl))); refers = four (references_fit desk_schema marks_table) refl refl refl refl; none = no_references }

pub blocks_plain : IsPlainTable desk_schema blocks_table
blocks_plain = record { apart = all_apart desk_schema.tables refl; listed = inr (inr (inr (inr (inl refl)))); refers = four (references_fit desk_schema blocks_table) refl refl refl refl; none = no_references }

pub nodes_plain : IsPlainTable desk_schema nodes_table
nodes_plain = record { apart = all_apart desk_schema.tables refl; listed = inr (inr (inr (inr (inr (inl refl))))); refers = four (references_fit desk_schema nodes_table) refl refl refl refl; none = no_references }

pub nearest_plain : IsPlainTable desk_schema nearest_table
nearest_plain = record { apart = all_apart desk_schema.tables refl; listed = inr (inr (inr (inr (inr (inr (inl refl)))))); refers = four (references_fit desk_schema nearest_table) refl refl refl refl; none = no_references }

pub affects_plain : IsPlainTable desk_schema affects_table
affects_plain = record { apart = all_apart desk_schema.tables refl; listed = inr (inr (inr (inr (inr (inr (inr (inl refl))))))); refers = four (references_fit desk_schema affects_table) refl refl refl refl; none = no_references }

pub messages_plain : IsPlainTable desk_schema messages_table
messages_plain = record { apart = all_apart desk_schema.tables refl; listed = inr (inr (inr (inr (inr (inr (inr (inr (inl refl)))))))); refers = four (references_fit desk_schema messages_table) refl refl refl refl; none = no_references }

pub outcomes_plain : IsPlainTable desk_schema outcomes_table
outcomes_plain = record { apart = all_apart desk_schema.tables refl; listed = inr (inr (inr (inr (inr (inr (inr (inr (inr (inl refl))))))))); refers = four (references_fit desk_schema outcomes_table) refl refl refl refl; none = no_references }

pub outcome_numbers_plain : IsPlainTable desk_schema outcome_numbers_table
outcome_numbers_plain = record { apart = all_apart desk_schema.tables refl; listed = inr (inr (inr (inr (inr (inr (inr (inr (inr (inr (inl refl)))))))))); refers = four (references_fit desk_schema outcome_numbers_table) refl refl refl refl; none = no_references }

-- keys are unique in the tables of a transaction
pub unique_at : (s : State) → IsInside s → IsTrue s.is_open → Keeps Unique desk_schema s.now.trees
unique_at s inside live = subst (λ schema. Keeps Unique schema s.now.trees) (inside.schema live) ((inside.sound live).obeys.rules Unique)
