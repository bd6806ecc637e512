-- The rows of messages and outcomes, as answers have them.
-- This project's own rule.
use Rattle.std.specs.Prelude.{◌≡◌, pos, List, [], ◌∷◌, map, Option}
use Rattle.std.specs.List.{AllByRecursion}
use Rattle.std.specs.Option.{option_map_or}
use Rattle.std.specs.Str.{IsUtf8}
use Rattle.sqlite.specs.Order.{Row}
use Rattle.sqlite.specs.Values.{or_null}
use Rattle.sqlite.specs.declared.types.Value.TheVariants.{Int, Text, Blob}
use Rattle.version_nodes.specs.Nodes.{Node, IsNode}
use Rattle.base_words.specs.Texts.{IfGiven}
use Rattle.table_encodings.specs.Outcomes.{bare, outcome_kind, outcome_number, outcome_field, outcome_node}
use Rattle.table_content.specs.declared.edit.SentMessage.{SentMessage}
use Rattle.table_content.specs.declared.edit.ToldOutcome.{ToldOutcome}

abbrev pub message_row : SentMessage → Row
message_row m = Text m.from ∷ Blob m.message ∷ []

-- its texts are UTF-8
pub record HasUtf8 (m : SentMessage) : Type 0 where
  pub sender : IsUtf8 m.from
  pub message : IsUtf8 m.message

-- They are the row of a message, if there is one.
pub record AreMessageRows (rows : List Row) (o : Option SentMessage) : Type 0 where
  pub are : rows ≡ option_map_or (λ m. message_row m ∷ []) o []
  pub good : IfGiven HasUtf8 o

abbrev pub outcome_row : ToldOutcome → Row
outcome_row t =
    Int (pos t.place) ∷ Int (pos (outcome_kind t.outcome)) ∷ or_null (λ n. Int (pos n)) (outcome_number t.outcome)
    ∷ or_null (λ n. Int (pos n)) (outcome_field t.outcome) ∷ or_null (λ (v : Node). Text v.source) (outcome_node t.outcome)
    ∷ or_null (λ (v : Node). Text v.version) (outcome_node t.outcome) ∷ []

-- its texts are a node's, and the numbers of an accepted line are not in it
pub record IsToldOutcome (t : ToldOutcome) : Type 0 where
  pub node : IfGiven IsNode (outcome_node t.outcome)
  pub is_bare : bare t.outcome ≡ t.outcome

-- They are the rows of these outcomes, in their order.
pub record AreOutcomeRows (rows : List Row) (ts : List ToldOutcome) : Type 0 where
  pub are : rows ≡ map outcome_row ts
  pub good : AllByRecursion IsToldOutcome ts
