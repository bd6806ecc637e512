-- What other rows of one table make of all that the tables say.
use Rattle.table_schema.proofs.Imports.{◌≡◌, ℕ, Bool, true, false, eqb, if◌then◌else◌, map, List, [], ◌∷◌, refl, sym, ap, subst, ◌∙◌, AllByRecursion, eqb-true, Row, State, Trees, with_tree, Found, Fixed, Changes, AreRows, is_index, stays, Content, META, SETS, BUGS, MARKS, BLOCKS, NODES, NEAREST, AFFECTS, MESSAGES, OUTCOMES, OUTCOME_NUMBERS, desk_schema, set_cells, set_in, IsSetRow, fields_in, bug_cells, bug_in, IsBugRow, key_in, members_in, mark_cells, mark_in, IsMarkRow, marks_in, block_cells, block_in, IsBlockRow, blockers_in, node_cells, node_in, IsNodeRow, nodes_in, nearest_cells, nearest_in, IsNearestRow, near_in, text_cells, text_row_in, IsTextRow, texts_in, message_cells, message_in, IsMessageRow, messages_in, outcome_cells, outcome_row_in, IsOutcomeRow, outcomes_in, number_cells, number_row_in, IsNumberRow, outcome_numbers_in, next_in, content_of, AreShown, seen}
use Rattle.table_schema.proofs.StatementLemmas.{Makes}

-- the rows of all tables are the same
pub record AreSame (db' db : Trees) : Type 0 where
  pub meta : db' META ≡ db META
  pub sets : db' SETS ≡ db SETS
  pub bugs : db' BUGS ≡ db BUGS
  pub marks : db' MARKS ≡ db MARKS
  pub blocks : db' BLOCKS ≡ db BLOCKS
  pub nodes : db' NODES ≡ db NODES
  pub nearest : db' NEAREST ≡ db NEAREST
  pub affects : db' AFFECTS ≡ db AFFECTS
  pub messages : db' MESSAGES ≡ db MESSAGES
  pub outcomes : db' OUTCOMES ≡ db OUTCOMES
  pub outcome_numbers : db' OUTCOME_NUMBERS ≡ db OUTCOME_NUMBERS

pub same_content : (db' db : Trees) → AreSame db' db → content_of db' ≡ content_of db
same_content db' db same = λ i. record {
  next = next_in (same.meta i);
  key = key_in (map bug_in (same.bugs i));
  members = members_in (map bug_in (same.bugs i));
  fields = fields_in (map set_in (same.sets i));
  found = marks_in Found (map mark_in (same.marks i));
  fixed = marks_in Fixed (map mark_in (same.marks i));
  blockers = blockers_in (map block_in (same.blocks i));
  affects = texts_in (map text_row_in (same.affects i));
  nodes = nodes_in (map node_in (same.nodes i));
  near = near_in (map nearest_in (same.nearest i));
  messages = messages_in (map message_in (same.messages i));
  outcomes = outcomes_in (map outcome_row_in (same.outcomes i));
  outcome_numbers = outcome_numbers_in (map number_row_in (same.outcome_numbers i));
}

pub same_shown : (db' db : Trees) → AreSame db' db → AreShown db → AreShown db'
same_shown db' db same shown = record {
  meta = (shown.meta.0, same.meta ∙ shown.meta.1);
  sets = subst (AreRows set_cells IsSetRow) (sym same.sets) shown.sets;
  bugs = subst (AreRows bug_cells IsBugRow) (sym same.bugs) shown.bugs;
  marks = subst (AreRows mark_cells IsMarkRow) (sym same.marks) shown.marks;
  blocks = subst (AreRows block_cells IsBlockRow) (sym same.blocks) shown.blocks;
  nodes = subst (AreRows node_cells IsNodeRow) (sym same.nodes) shown.nodes;
  nearest = subst (AreRows nearest_cells IsNearestRow) (sym same.nearest) shown.nearest;
  affects = subst (AreRows text_cells IsTextRow) (sym same.affects) shown.affects;
  messages = subst (AreRows message_cells IsMessageRow) (sym same.messages) shown.messages;
  outcomes = subst (AreRows outcome_cells IsOutcomeRow) (sym same.outcomes) shown.outcomes;
  outcome_numbers = subst (AreRows number_cells IsNumberRow) (sym same.outcome_numbers) shown.outcome_numbers;
}

-- one table has other rows
module _ (old new : State) (tree : ℕ) (rows : List Row) (it : Changes desk_schema old.now new.now tree rows) where
  placed_at : (t : ℕ) → is_index desk_schema t ≡ false → new.now.trees t ≡ with_tree old.now.trees tree rows t
  placed_at t none = go (eqb t tree) refl
    where
      go : (b : Bool) → eqb t tree ≡ b → new.now.trees t ≡ (if b then rows else old.now.trees t)
      go true is = ap new.now.trees (eqb-true t tree is) ∙ it.rows_are
      go false is = stays desk_schema old.now new.now tree rows it t is none

  are_same : AreSame new.now.trees (with_tree old.now.trees tree rows)
  are_same = record {
    meta = placed_at META refl;
    sets = placed_at SETS refl;
    bugs = placed_at BUGS refl;
    marks = placed_at MARKS refl;
    blocks = placed_at BLOCKS refl;
    nodes = placed_at NODES refl;
    nearest = placed_at NEAREST refl;
    affects = placed_at AFFECTS refl;
    messages = placed_at MESSAGES refl;
    outcomes = placed_at OUTCOMES refl;
    outcome_numbers = placed_at OUTCOME_NUMBERS refl;
  }

  pub remade : AreShown (with_tree old.now.trees tree rows) → (after : Content → Content) → content_of (with_tree old.now.trees tree rows) ≡ after (seen old) → Makes old new after
  remade shown after says = record {
    schema = it.schema_is;
    sound = it.sound;
    shown = same_shown new.now.trees (with_tree old.now.trees tree rows) are_same shown;
    content = same_content new.now.trees (with_tree old.now.trees tree rows) are_same ∙ says;
  }

-- typed rows are read back from their cells
pub read_back : {T : Type 0} (cells : T → Row) (back : Row → T) → ((x : T) → back (cells x) ≡ x) → (xs : List T) → map back (map cells xs) ≡ xs
read_back cells back same [] = refl
read_back cells back same (x ∷ xs) = ap (λ y. y ∷ map back (map cells xs)) (same x) ∙ ap (λ ys. x ∷ ys) (read_back cells back same xs)

-- those that are good
pub good_back : {T : Type 0} (cells : T → Row) (back : Row → T) (IsGood : T → Type 0) → ((x : T) → IsGood x → back (cells x) ≡ x)
    → (xs : List T) → AllByRecursion IsGood xs → map back (map cells xs) ≡ xs
good_back cells back IsGood same [] good = refl
good_back cells back IsGood same (x ∷ xs) good =
    ap (λ y. y ∷ map back (map cells xs)) (same x good.0) ∙ ap (λ ys. x ∷ ys) (good_back cells back IsGood same xs good.1)
