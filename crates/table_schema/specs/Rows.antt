-- What the rows of all tables say.
-- This project's own rule.
use Rattle.std.specs.Prelude.{◌≡◌, ℕ, pos, map, List, [], ◌∷◌}
use Rattle.sqlite.specs.Order.{Row, column}
use Rattle.sqlite.specs.Tree.{Trees}
use Rattle.sqlite.specs.declared.types.Value.TheVariants.{Null, Int}
use Rattle.version_nodes.specs.declared.statuses.MarkKind.TheVariants.{Found, Fixed}
use Rattle.table_forms.specs.Numbers.{number_in}
use Rattle.table_forms.specs.TypedRows.{AreRows}
use Rattle.table_content.specs.Content.{Content}
use Rattle.table_schema.specs.Tables.{META, SETS, BUGS, MARKS, BLOCKS, NODES, NEAREST, AFFECTS, MESSAGES, OUTCOMES, OUTCOME_NUMBERS}
use Rattle.table_schema.specs.SetRows.{set_cells, set_in, IsSetRow, fields_in}
use Rattle.table_schema.specs.BugRows.{bug_cells, bug_in, IsBugRow, key_in, members_in}
use Rattle.table_schema.specs.MarkRows.{mark_cells, mark_in, IsMarkRow, marks_in}
use Rattle.table_schema.specs.BlockRows.{block_cells, block_in, IsBlockRow, blockers_in}
use Rattle.table_schema.specs.NodeRows.{node_cells, node_in, IsNodeRow, nodes_in}
use Rattle.table_schema.specs.NearestRows.{nearest_cells, nearest_in, IsNearestRow, near_in}
use Rattle.table_schema.specs.TextRows.{text_cells, text_row_in, IsTextRow, texts_in}
use Rattle.table_schema.specs.MessageRows.{message_cells, message_in, IsMessageRow, messages_in}
use Rattle.table_schema.specs.OutcomeRows.{outcome_cells, outcome_row_in, IsOutcomeRow, outcomes_in}
use Rattle.table_schema.specs.NumberRows.{number_cells, number_row_in, IsNumberRow, outcome_numbers_in}

-- meta has one row, with the schema's number and the next bug's
abbrev pub meta_cells : ℕ → Row
meta_cells next = Int (pos 1) ∷ Null ∷ Int (pos 3) ∷ Int (pos next) ∷ []

abbrev pub next_in : List Row → ℕ
next_in [] = 0
next_in (r ∷ rows) = number_in (column r 3)

-- what the tables say
abbrev pub content_of : Trees → Content
content_of db = record {
  next = next_in (db META);
  key = key_in (map bug_in (db BUGS));
  members = members_in (map bug_in (db BUGS));
  fields = fields_in (map set_in (db SETS));
  found = marks_in Found (map mark_in (db MARKS));
  fixed = marks_in Fixed (map mark_in (db MARKS));
  blockers = blockers_in (map block_in (db BLOCKS));
  affects = texts_in (map text_row_in (db AFFECTS));
  nodes = nodes_in (map node_in (db NODES));
  near = near_in (map nearest_in (db NEAREST));
  messages = messages_in (map message_in (db MESSAGES));
  outcomes = outcomes_in (map outcome_row_in (db OUTCOMES));
  outcome_numbers = outcome_numbers_in (map number_row_in (db OUTCOME_NUMBERS));
}

-- each row is the cells of something
pub record AreShown (db : Trees) : Type 0 where
  pub meta : (next : ℕ) × (db META ≡ meta_cells next ∷ [])
  pub sets : AreRows set_cells IsSetRow (db SETS)
  pub bugs : AreRows bug_cells IsBugRow (db BUGS)
  pub marks : AreRows mark_cells IsMarkRow (db MARKS)
  pub blocks : AreRows block_cells IsBlockRow (db BLOCKS)
  pub nodes : AreRows node_cells IsNodeRow (db NODES)
  pub nearest : AreRows nearest_cells IsNearestRow (db NEAREST)
  pub affects : AreRows text_cells IsTextRow (db AFFECTS)
  pub messages : AreRows message_cells IsMessageRow (db MESSAGES)
  pub outcomes : AreRows outcome_cells IsOutcomeRow (db OUTCOMES)
  pub outcome_numbers : AreRows number_cells IsNumberRow (db OUTCOME_NUMBERS)
