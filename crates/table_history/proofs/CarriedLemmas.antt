-- What the steps of the history make of a database.
use Rattle.table_history.proofs.Imports.{Step, texts, history, schema_at, without, without_steps, no_rows, IsBlank, IsUnder, no_tables, RunsSteps, IsBuilt, AreNumbered}
use Rattle.table_schema.proofs.Exports.{◌≡◌, ℕ, Bool, true, false, if◌then◌else◌, ◌==◌, List, [], ◌∷◌, drop, Result, refl, sym, subst, ◌∙◌, ⊤, drop-map, AllByRecursion, Held, state, State, Ghosts, Row, Table, Trees, with_tree, StoreFault, Content, META, desk_schema, AreSame}
use Rattle.std.proofs.Common.{eq-eqb}
use Rattle.sqlite_catalog.specs.Change.{KeepsRows}
use Rattle.table_history.proofs.StepLemmas.{Goes, goes_from, HaveNoRow, steps_from, last_from, steps_go}
use Rattle.table_history.proofs.StepTexts.{steps, keeps_at}

-- where the tables of a desk have the same rows, they do whatever the row of meta is then
pub kept_same : (db db' : Trees) (meta : List Row) → KeepsRows desk_schema.tables db db' → AreSame (with_tree db' META meta) (with_tree db META meta)
kept_same db db' meta kept = record {
  meta = refl;
  sets = kept.1.0;
  bugs = kept.1.1.0;
  marks = kept.1.1.1.0;
  blocks = kept.1.1.1.1.0;
  nodes = kept.1.1.1.1.1.0;
  nearest = kept.1.1.1.1.1.1.0;
  affects = kept.1.1.1.1.1.1.1.0;
  messages = kept.1.1.1.1.1.1.1.1.0;
  outcomes = kept.1.1.1.1.1.1.1.1.1.0;
  outcome_numbers = kept.1.1.1.1.1.1.1.1.1.1.0;
}

-- ---- tables that are emptied

here : (db : Trees) (tree : ℕ) → with_tree db tree [] tree ≡ []
here db tree = rw (eq-eqb tree tree refl)

still : (db : Trees) (tree t : ℕ) → db t ≡ [] → with_tree db tree [] t ≡ []
still db tree t none = go (t == tree)
  where
    go : (b : Bool) → (if b then [] else db t) ≡ []
    go true = refl
    go false = none

-- an empty tree stays so
still_all : (tables : List Table) (db : Trees) (t : ℕ) → db t ≡ [] → without tables db t ≡ []
still_all [] db t none = none
still_all (u ∷ tables) db t none = still (without tables db) u.tree t (still_all tables db t none)

none_of : (tables : List Table) (db : Trees) → AllByRecursion (λ t. without tables db t.tree ≡ []) tables
none_of [] db = tt
none_of (u ∷ tables) db = (here (without tables db) u.tree, more tables (none_of tables db))
  where
    more : (ts : List Table) → AllByRecursion (λ t. without tables db t.tree ≡ []) ts → AllByRecursion (λ t. with_tree (without tables db) u.tree [] t.tree ≡ []) ts
    more [] all = tt
    more (t ∷ ts) all = (still (without tables db) u.tree t.tree all.0, more ts all.1)

none_later : (rest : List Step) (db : Trees) → HaveNoRow (without_steps rest db) rest
none_later [] db = tt
none_later (step ∷ rest) db = (none_of step.tables (without_steps rest db), more rest (none_later rest db))
  where
    tables : (ts : List Table) → AllByRecursion (λ t. without_steps rest db t.tree ≡ []) ts → AllByRecursion (λ t. without step.tables (without_steps rest db) t.tree ≡ []) ts
    tables [] all = tt
    tables (t ∷ ts) all = (still_all step.tables (without_steps rest db) t.tree all.0, tables ts all.1)

    more : (steps : List Step) → HaveNoRow (without_steps rest db) steps → HaveNoRow (without step.tables (without_steps rest db)) steps
    more [] all = tt
    more (s ∷ steps) all = (tables s.tables all.0, more steps all.1)

-- ---- the steps from a schema on

module _ {S : Type 0} (g : Ghosts S) (Fact : Type 0) (rows : Trees) (k : ℕ) (none : HaveNoRow rows (drop k history)) (old new : Held S) (r : Result (Unit {0}) StoreFault) where
  runs_go : RunsSteps g (drop k texts) old new r → Goes (IsBuilt Fact rows (schema_at k)) (IsBuilt Fact rows desk_schema) (state g old) (state g new) r
  runs_go run =
      subst (λ last. Goes (IsBuilt Fact rows (schema_at k)) (IsBuilt Fact rows last) (state g old) (state g new) r) (last_from no_tables history k)
      (steps_go g Fact rows (schema_at k) (drop k history) (steps_from no_tables history k steps) none old new r
      (subst (λ xs. RunsSteps g xs old new r) (drop-map (λ (s : Step). s.texts) k history) run))

-- over a database with no table
pub new_tables : {S : Type 0} (g : Ghosts S) (old new : Held S) (r : Result (Unit {0}) StoreFault) → RunsSteps g texts old new r → Goes IsBlank (IsBuilt ⊤ no_rows desk_schema) (state g old) (state g new) r
new_tables g old new r run =
    goes_from (IsBuilt ⊤ no_rows no_tables) IsBlank (IsBuilt ⊤ no_rows desk_schema) (state g old) (state g new) r
    (λ was. record { begun = was.begun; unlimited = was.unlimited; schema_is = was.schema; sound = was.sound; rows_are = λ _. tt; fact = λ _. tt })
    (runs_go g ⊤ no_rows 0 all_none old new r run)
  where
    all_none : HaveNoRow no_rows history
    all_none = ((refl, (refl, (refl, (refl, (refl, (refl, (refl, tt))))))), ((refl, tt), ((refl, (refl, (refl, tt))), tt)))

-- over the tables of a desk under a schema
abbrev pub rows_of : ℕ → State → Trees
rows_of k s = without_steps (drop k history) s.now.trees

abbrev pub IsCarried : ℕ → Content → State → State → Type 0
IsCarried k c old = IsBuilt (AreNumbered k c (rows_of k old)) (rows_of k old) desk_schema

under_built : (k : ℕ) (c : Content) (s : State) → IsUnder k c s → IsBuilt (AreNumbered k c (rows_of k s)) (rows_of k s) (schema_at k) s
under_built k c s was = record {
  begun = was.begun;
  unlimited = was.unlimited;
  schema_is = was.schema;
  sound = was.sound;
  rows_are = λ o. (keeps_at k (was.shown o).some s.now.trees).1;
  fact = λ o. let it = was.shown o in record { meta = sym (keeps_at k it.some s.now.trees).0 ∙ it.meta; shown = it.shown; says = it.says };
}

pub later_tables : {S : Type 0} (g : Ghosts S) (k : ℕ) (c : Content) (old new : Held S) (r : Result (Unit {0}) StoreFault) → RunsSteps g (drop k texts) old new r
    → Goes (IsUnder k c) (IsCarried k c (state g old)) (state g old) (state g new) r
later_tables g k c old new r run =
    let rows = rows_of k (state g old) in
    goes_from (IsBuilt (AreNumbered k c rows) rows (schema_at k)) (IsUnder k c) (IsCarried k c (state g old)) (state g old) (state g new) r (under_built k c (state g old))
    (runs_go g (AreNumbered k c rows) rows k (none_later (drop k history) (state g old).now.trees) old new r run)
