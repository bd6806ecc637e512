-- The rows of outcomes: one for each outcome of a message that has an id, without the numbers of an
-- accepted line.
-- This project's own rule.
use Rattle.std.specs.Prelude.{ℕ, ℤ, ◌≡◌, pos, List, [], ◌∷◌, map, filter, unwrap_or}
use Rattle.std.specs.Str.{bytes_eq, IsUtf8}
use Rattle.sqlite.specs.Edit.{id_in}
use Rattle.sqlite.specs.Order.{Row, column}
use Rattle.sqlite.specs.Values.{or_null}
use Rattle.sqlite.specs.declared.types.Value.TheVariants.{Int, Text}
use Rattle.version_nodes.specs.Nodes.{Node, IsNode}
use Rattle.base_words.specs.Texts.{IfGiven}
use Rattle.bug_record.specs.declared.outcome.Outcome.{Outcome}
use Rattle.bug_record.specs.declared.outcome.Outcome.TheVariants.{Stopped}
use Rattle.table_forms.specs.Numbers.{number_in}
use Rattle.table_content.specs.Edits.{placed}
use Rattle.table_encodings.specs.Outcomes.{bare, outcome_kind, outcome_number, outcome_field, outcome_node, outcome_in}
use Rattle.table_content.specs.declared.edit.ToldOutcome.{ToldOutcome}
use Rattle.table_schema.specs.Cells.{maybe_number, maybe_text, text_in}
use Rattle.table_schema.specs.NodeRows.{node_between}

pub record OutcomeRow : Type 0 where
  pub id : ℤ
  pub message_id : List ℕ
  pub place : ℕ
  pub outcome : Outcome

abbrev pub outcome_cells : OutcomeRow → Row
outcome_cells x =
    Int x.id ∷ Text x.message_id ∷ Int (pos x.place) ∷ Int (pos (outcome_kind x.outcome)) ∷ or_null (λ n. Int (pos n)) (outcome_number x.outcome)
    ∷ or_null (λ n. Int (pos n)) (outcome_field x.outcome) ∷ or_null (λ (v : Node). Text v.source) (outcome_node x.outcome)
    ∷ or_null (λ (v : Node). Text v.version) (outcome_node x.outcome) ∷ []

abbrev pub outcome_row_in : Row → OutcomeRow
outcome_row_in r = record {
  id = id_in (column r 0);
  message_id = text_in (column r 1);
  place = number_in (column r 2);
  outcome =
      unwrap_or (outcome_in (number_in (column r 3)) (maybe_number (column r 4)) (maybe_number (column r 5))
      (node_between (maybe_text (column r 6)) (maybe_text (column r 7)))) Stopped;
}

-- its texts are UTF-8 and a node's, and the numbers of an accepted line are not in it
pub record IsOutcomeRow (x : OutcomeRow) : Type 0 where
  pub message_id : IsUtf8 x.message_id
  pub node : IfGiven IsNode (outcome_node x.outcome)
  pub is_bare : bare x.outcome ≡ x.outcome

-- the outcomes of an id, as the rows have them
abbrev pub told_of : List ℕ → List OutcomeRow → List ToldOutcome
told_of id xs = map (λ (x : OutcomeRow). record { place = x.place; outcome = x.outcome }) (filter (λ x. bytes_eq x.message_id id) xs)

abbrev pub placed_each : List ToldOutcome → List ToldOutcome → List ToldOutcome
placed_each ts [] = ts
placed_each ts (x ∷ xs) = placed_each (placed (λ (t : ToldOutcome). t.place) ts x) xs

-- the same by place
abbrev pub outcomes_in : List OutcomeRow → List ℕ → List ToldOutcome
outcomes_in xs id = placed_each [] (told_of id xs)
