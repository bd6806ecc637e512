-- What the statements on messages mean.
use Rattle.table_nodes.proofs.Imports.{message_row, HasUtf8, AreMessageRows}
use Rattle.table_schema.proofs.Exports.{◌≡◌, ℕ, Bool, true, List, [], ◌∷◌, codes, filter, Option, Some, None, option_map, refl, sym, ◌∙◌, arith, bytes_decides, option_map_or, bytes_eq, IsUtf8, Insert, understood, Row, Values, Term, lit, col, Null, Text, Blob, everything, IfGiven, passes, equals, IsCallOf, IsQueryOf, holds_text, and_true, edited, IsFree, PutMessage, last_row, MESSAGES, desk_schema, MessageRow, message_cells, IsMessageRow, sent, cast_null, same_text, messages, keyed_messages, AreApart, rows_apart, said_more, none_said, one_kept, one_alike, last_good, IsWrite, IsRead, adds, asks, one_answer}

-- ---- a message comes

abbrev add_text : List ℕ
add_text = codes "INSERT INTO messages VALUES (?1, ?2, ?3)"

abbrev terms : List Term
terms = lit Null ∷ col 0 0 ∷ col 0 1 ∷ col 0 2 ∷ []

abbrev add_params : List ℕ → List ℕ → List ℕ → Row
add_params id sender message = Text id ∷ Text sender ∷ Blob message ∷ []

add_call : (id sender message : List ℕ) → IsCallOf desk_schema add_text (add_params id sender message) (Insert 8 (Values terms 4))
unfolding understood everything
add_call id sender message = record { command_is = refl; writes = tt; plain = (refl, refl); whole = omega arith; given = refl }

abbrev of_id : List ℕ → MessageRow → Bool
of_id id x = bytes_eq x.message_id id

pub add_is : (id sender message : List ℕ) → IsUtf8 id → IsUtf8 sender → IsUtf8 message
    → IsWrite add_text (add_params id sender message) (IsFree (PutMessage id sender message)) (edited (PutMessage id sender message))
add_is id sender message is is' is'' = adds keyed_messages add_text (add_params id sender message) terms (PutMessage id sender message) (record {
  text = record { call = add_call id sender message; typed = refl; one = λ row. refl };
  new = λ rowid. record { id = rowid; message_id = id; sender = sender; message = message };
  own = λ rowid. refl;
  is = λ rows. rw cast_null refl;
  good = λ rowid. record { message_id = is; sender = is'; message = is'' };
  kept = λ rowid. record { datatype = λ db. refl; not_null = λ db. refl; check = λ db. refl; keyed = refl };
  more = λ xs rowid c. λ i. record c { messages = λ other. said_more sent (of_id other) xs (record { id = rowid; message_id = id; sender = sender; message = message }) i };
  none = λ xs rowid c free. none_said sent (of_id id) xs free;
})

-- ---- that of an id is read

abbrev read_text : List ℕ
read_text = codes "SELECT sender, message FROM messages WHERE id = ?1"

abbrev shown_terms : List Term
shown_terms = col 1 2 ∷ col 1 3 ∷ []

abbrev names : List (List ℕ)
names = codes "sender" ∷ codes "message" ∷ []

read_is : (id : List ℕ) → IsQueryOf desk_schema read_text (Text id ∷ []) MESSAGES (equals 1 ∷ []) shown_terms [] names
unfolding understood everything
read_is id = record { command_is = refl; plain = (refl, refl); whole = omega arith; given = refl; unlisted = refl; typed = refl }

hit_id : (id : List ℕ) (x : MessageRow) → passes (equals 1 ∷ []) (Text id ∷ []) (message_cells x) ≡ of_id id x
hit_id id x = and_true _ ∙ holds_text 1 0 (Text id ∷ []) (message_cells x) id refl ∙ same_text x.message_id id

-- two rows of an id have one key
one_id : (id : List ℕ) (x y : MessageRow) → of_id id x ≡ true → of_id id y ≡ true → bytes_eq x.message_id y.message_id ≡ true
one_id id x y p q = (bytes_decides x.message_id y.message_id).1 ((bytes_decides x.message_id id).0 p ∙ sym ((bytes_decides y.message_id id).0 q))

are_rows : (o : Option MessageRow) → option_map_or (λ (r : Row). r ∷ []) (option_map (λ (x : MessageRow). message_row (sent x)) o) [] ≡ option_map_or (λ m. message_row m ∷ []) (option_map sent o) []
are_rows None = refl
are_rows (Some x) = refl

utf8 : (o : Option MessageRow) → IfGiven IsMessageRow o → IfGiven HasUtf8 (option_map sent o)
utf8 None good = tt
utf8 (Some x) good = record { sender = good.sender; message = good.message }

pub message_read : (id : List ℕ) → IsRead read_text (Text id ∷ []) (λ c rows. AreMessageRows rows (c.messages id))
message_read id = asks messages read_text (Text id ∷ []) (equals 1 ∷ []) shown_terms names _ (record {
  text = read_is id;
  is_hit = of_id id;
  hits = hit_id id;
  of = λ x. message_row (sent x);
  row = λ r. r;
  back = λ r. r;
  same = λ r. refl;
  shows = λ x. refl;
  AreFine = AreApart keyed_messages;
  fine = λ s inside live all. rows_apart keyed_messages s inside live all;
  says = λ xs c apart good rows any.
      let one = one_kept (of_id id) xs (one_alike (of_id id) keyed_messages.alike (one_id id) xs apart) in
      record {
        are = one_answer (λ (x : MessageRow). message_row (sent x)) (λ (r : Row). r) (last_row (of_id id) xs) (filter (of_id id) xs) one rows any ∙ are_rows (last_row (of_id id) xs);
        good = utf8 (last_row (of_id id) xs) (last_good (of_id id) IsMessageRow xs good);
      };
})
