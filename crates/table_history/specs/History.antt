-- The history of a desk's schema, as a list of steps.
-- This project's own rule.
use Rattle.std.specs.Prelude.{ℕ, List, [], ◌∷◌, map, zero, suc, get_or}
use Rattle.sqlite.specs.Schema.{Schema}
use Rattle.sqlite.specs.Table.{Table}
use Rattle.sqlite.specs.Tree.{Trees}
use Rattle.sqlite_trees.specs.Tree.{with_tree}
use Rattle.table_schema.specs.Tables.{first_schema, second_schema, desk_schema, affects_table, messages_table, outcomes_table, outcome_numbers_table}
use Rattle.table_history.specs.Names.{no_tables}
use Rattle.table_history.specs.declared.history.TheConstants.{STEPS}

-- one step: its texts, in the order in which they are run, the tables that they make, with no row,
-- and the schema after it
pub record Step : Type 0 where
  pub texts : List (List ℕ)
  pub tables : List Table
  pub after : Schema

-- the texts of each step
abbrev pub texts : List (List (List ℕ))
texts = map (λ step. map (λ sql. sql.now) step.now) STEPS

abbrev pub history : List Step
history =
    record { texts = get_or texts 0 []; tables = first_schema.tables; after = first_schema }
    ∷ record { texts = get_or texts 1 []; tables = affects_table ∷ []; after = second_schema }
    ∷ record { texts = get_or texts 2 []; tables = messages_table ∷ outcomes_table ∷ outcome_numbers_table ∷ []; after = desk_schema }
    ∷ []

-- the schema after so many of these steps, before which there was this one
abbrev pub schema_after : Schema → List Step → ℕ → Schema
schema_after before [] k = before
schema_after before (step ∷ steps) zero = before
schema_after before (step ∷ steps) (suc k) = schema_after step.after steps k

-- the schema of this number
abbrev pub schema_at : ℕ → Schema
schema_at = schema_after no_tables history

-- these trees, with no row in these tables
abbrev pub without : List Table → Trees → Trees
without [] db = db
without (t ∷ tables) db = with_tree (without tables db) t.tree []

-- these trees, with no row in the tables that these steps make
abbrev pub without_steps : List Step → Trees → Trees
without_steps [] db = db
without_steps (step ∷ steps) db = without step.tables (without_steps steps db)
