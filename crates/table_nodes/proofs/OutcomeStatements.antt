-- What the INSERT of an outcome means.
use Rattle.table_schema.proofs.Exports.{◌≡◌, ℕ, ℤ, pos, true, List, [], ◌∷◌, codes, Option, Some, None, option_map, refl, sym, ap, subst, arith, IsUtf8, Insert, next_rowid, understood, Row, Values, Term, lit, col, or_null, bound_value, Value, Null, Int, Text, everything, accepts_terms, Node, IsNode, node, IfGiven, Outcome, Changed, Refused, Stopped, inserted, IsCallOf, IsGoodRow, edited, IsFree, bare, outcome_kind, outcome_number, outcome_field, outcome_node, PutOutcome, outcomes_table, desk_schema, OutcomeRow, outcome_cells, cast_int, cast_null, keyed_outcomes, outcome_rows, one_more, apart, IsWrite, adds}

abbrev pub add_text : List ℕ
add_text = codes "INSERT INTO outcomes VALUES (?1, ?2, ?3, ?4, ?5, ?6, ?7)"

abbrev terms : List Term
terms = lit Null ∷ col 0 0 ∷ col 0 1 ∷ col 0 2 ∷ col 0 3 ∷ col 0 4 ∷ col 0 5 ∷ col 0 6 ∷ []

-- a number that may be missing
abbrev pub maybe_int : Option ℕ → Value
maybe_int n = or_null (λ k. Int (pos k)) n

-- the cells of an outcome, of which these numbers and this node tell
abbrev pub params_with : List ℕ → ℕ → ℕ → Option ℕ → Option ℕ → Option Node → Row
params_with id place kind n field node =
    Text id ∷ Int (pos place) ∷ Int (pos kind) ∷ maybe_int n ∷ maybe_int field ∷ or_null Text (option_map (λ (v : Node). v.source) node)
    ∷ or_null Text (option_map (λ (v : Node). v.version) node) ∷ []

abbrev pub params_of : List ℕ → ℕ → Outcome → Row
params_of id place o = params_with id place (outcome_kind o) (outcome_number o) (outcome_field o) (outcome_node o)

add_call : (id : List ℕ) (place kind : ℕ) (n field : Option ℕ) (node : Option Node) → IsCallOf desk_schema add_text (params_with id place kind n field node) (Insert 9 (Values terms 8))
unfolding understood everything
add_call id place kind n field at_node = record { command_is = refl; writes = tt; plain = (refl, refl); whole = omega arith; given = refl }

-- ---- the row that is added

abbrev cells_with : Value → List ℕ → ℕ → ℕ → Option ℕ → Option ℕ → Option Node → Row
cells_with rowid id place kind n field node =
    rowid ∷ Text id ∷ Int (pos place) ∷ Int (pos kind) ∷ maybe_int n ∷ maybe_int field ∷ or_null (λ (v : Node). Text v.source) node
    ∷ or_null (λ (v : Node). Text v.version) node ∷ []

row_with : (rows : List Row) (id : List ℕ) (place kind : ℕ) (n field : Option ℕ) (node : Option Node)
    → inserted outcomes_table rows terms (params_with id place kind n field node) ≡ cells_with (Int (next_rowid rows)) id place kind n field node
row_with rows id place kind None None None = rw (cast_null, cast_int (pos place), cast_int (pos kind)) refl
row_with rows id place kind None None (Some v) = rw (cast_null, cast_int (pos place), cast_int (pos kind)) refl
row_with rows id place kind None (Some f) None = rw (cast_null, cast_int (pos place), cast_int (pos kind), cast_int (pos f)) refl
row_with rows id place kind None (Some f) (Some v) = rw (cast_null, cast_int (pos place), cast_int (pos kind), cast_int (pos f)) refl
row_with rows id place kind (Some n) None None = rw (cast_null, cast_int (pos place), cast_int (pos kind), cast_int (pos n)) refl
row_with rows id place kind (Some n) None (Some v) = rw (cast_null, cast_int (pos place), cast_int (pos kind), cast_int (pos n)) refl
row_with rows id place kind (Some n) (Some f) None = rw (cast_null, cast_int (pos place), cast_int (pos kind), cast_int (pos n), cast_int (pos f)) refl
row_with rows id place kind (Some n) (Some f) (Some v) = rw (cast_null, cast_int (pos place), cast_int (pos kind), cast_int (pos n), cast_int (pos f)) refl

abbrev new_row : List Row → List ℕ → ℕ → Outcome → OutcomeRow
new_row rows id place o = record { id = next_rowid rows; message_id = id; place = place; outcome = bare o }

-- the numbers of an accepted line are not in its cells
row_is : (rows : List Row) (id : List ℕ) (place : ℕ) (o : Outcome) → inserted outcomes_table rows terms (params_of id place o) ≡ outcome_cells (new_row rows id place o)
row_is rows id place (Changed numbers) = row_with rows id place 0 None None None
row_is rows id place (Refused refusal) =
    row_with rows id place (outcome_kind (Refused refusal)) (outcome_number (Refused refusal)) (outcome_field (Refused refusal)) (outcome_node (Refused refusal))
row_is rows id place Stopped = row_with rows id place 20 None None None

bare_twice : (o : Outcome) → bare (bare o) ≡ bare o
bare_twice (Changed numbers) = refl
bare_twice (Refused refusal) = refl
bare_twice Stopped = refl

node_stays : (o : Outcome) → outcome_node (bare o) ≡ outcome_node o
node_stays (Changed numbers) = refl
node_stays (Refused refusal) = refl
node_stays Stopped = refl

good_with : (rowid : ℤ) (id : List ℕ) (place kind : ℕ) (n field : Option ℕ) (node : Option Node) → IsGoodRow desk_schema outcomes_table (cells_with (Int rowid) id place kind n field node)
good_with rowid id place kind None None None = record { datatype = λ db. refl; not_null = λ db. refl; check = λ db. refl; keyed = refl }
good_with rowid id place kind None None (Some v) = record { datatype = λ db. refl; not_null = λ db. refl; check = λ db. refl; keyed = refl }
good_with rowid id place kind None (Some f) None = record { datatype = λ db. refl; not_null = λ db. refl; check = λ db. refl; keyed = refl }
good_with rowid id place kind None (Some f) (Some v) = record { datatype = λ db. refl; not_null = λ db. refl; check = λ db. refl; keyed = refl }
good_with rowid id place kind (Some n) None None = record { datatype = λ db. refl; not_null = λ db. refl; check = λ db. refl; keyed = refl }
good_with rowid id place kind (Some n) None (Some v) = record { datatype = λ db. refl; not_null = λ db. refl; check = λ db. refl; keyed = refl }
good_with rowid id place kind (Some n) (Some f) None = record { datatype = λ db. refl; not_null = λ db. refl; check = λ db. refl; keyed = refl }
good_with rowid id place kind (Some n) (Some f) (Some v) = record { datatype = λ db. refl; not_null = λ db. refl; check = λ db. refl; keyed = refl }

accepted : (id : List ℕ) (place kind : ℕ) (n field : Option ℕ) (node : Option Node) → accepts_terms terms (params_with id place kind n field node) ≡ true
accepted id place kind None None None = refl
accepted id place kind None None (Some v) = refl
accepted id place kind None (Some f) None = refl
accepted id place kind None (Some f) (Some v) = refl
accepted id place kind (Some n) None None = refl
accepted id place kind (Some n) None (Some v) = refl
accepted id place kind (Some n) (Some f) None = refl
accepted id place kind (Some n) (Some f) (Some v) = refl

pub add_is : (id : List ℕ) (place : ℕ) (o : Outcome) → IsUtf8 id → IfGiven IsNode (outcome_node o)
    → IsWrite add_text (params_of id place o) (IsFree (PutOutcome id place o)) (edited (PutOutcome id place o))
add_is id place o is valid = adds keyed_outcomes add_text (params_of id place o) terms (PutOutcome id place o) (record {
  text = record {
    call = add_call id place (outcome_kind o) (outcome_number o) (outcome_field o) (outcome_node o);
    typed = accepted id place (outcome_kind o) (outcome_number o) (outcome_field o) (outcome_node o);
    one = λ row. refl;
  };
  new = λ rowid. record { id = rowid; message_id = id; place = place; outcome = bare o };
  own = λ rowid. refl;
  is = λ rows. row_is rows id place o;
  good = λ rowid. record { message_id = is; node = subst (IfGiven IsNode) (sym (node_stays o)) valid; is_bare = bare_twice o };
  kept = λ rowid. good_with rowid id place (outcome_kind (bare o)) (outcome_number (bare o)) (outcome_field (bare o)) (outcome_node (bare o));
  more = λ xs rowid c. λ i. record c { outcomes = λ other. one_more outcome_rows xs (record { id = rowid; message_id = id; place = place; outcome = bare o }) other i };
  none = λ xs rowid c free. apart outcome_rows id (record { place = place; outcome = bare o }) _ (λ x. refl) xs free;
})

pub number_bound : (o n : Option ℕ) → o ≡ n → bound_value (maybe_int o) ≡ maybe_int n
number_bound None n is = ap maybe_int is
number_bound (Some k) n is = ap maybe_int is
