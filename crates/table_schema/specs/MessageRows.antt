-- The rows of messages: one for each message that has an id.
-- This project's own rule.
use Rattle.std.specs.Prelude.{ℕ, ℤ, List, [], ◌∷◌, Option, option_map}
use Rattle.std.specs.Str.{bytes_eq, IsUtf8}
use Rattle.sqlite.specs.Edit.{id_in}
use Rattle.sqlite.specs.Order.{Row, column}
use Rattle.sqlite.specs.declared.types.Value.TheVariants.{Int, Text, Blob}
use Rattle.table_content.specs.declared.edit.SentMessage.{SentMessage}
use Rattle.table_schema.specs.Cells.{text_in, bytes_in}
use Rattle.table_schema.specs.LastRow.{last_row}

pub record MessageRow : Type 0 where
  pub id : ℤ
  pub message_id : List ℕ
  pub sender : List ℕ
  pub message : List ℕ

abbrev pub message_cells : MessageRow → Row
message_cells x = Int x.id ∷ Text x.message_id ∷ Text x.sender ∷ Blob x.message ∷ []

abbrev pub message_in : Row → MessageRow
message_in r = record {
  id = id_in (column r 0);
  message_id = text_in (column r 1);
  sender = text_in (column r 2);
  message = bytes_in (column r 3);
}

-- its texts are UTF-8
pub record IsMessageRow (x : MessageRow) : Type 0 where
  pub message_id : IsUtf8 x.message_id
  pub sender : IsUtf8 x.sender
  pub message : IsUtf8 x.message

abbrev pub sent : MessageRow → SentMessage
sent x = record { from = x.sender; message = x.message }

-- the message of an id, if it has a row: the last row counts
abbrev pub messages_in : List MessageRow → List ℕ → Option SentMessage
messages_in xs id = option_map sent (last_row (λ x. bytes_eq x.message_id id) xs)
