-- The tables of a desk but meta: their rows, what they say, and their keys.
use Rattle.table_schema.proofs.Imports.{◌&&◌, ◌==◌, eqb, refl, bytes_eq, same_node, Found, Fixed, and_true, kind_number, sets_table, bugs_table, marks_table, blocks_table, nodes_table, nearest_table, affects_table, messages_table, outcomes_table, outcome_numbers_table, marks_key, blocks_key, nodes_key, nearest_key, affects_key, messages_key, outcomes_key, outcome_numbers_key, SetRow, set_cells, set_in, IsSetRow, fields_in, BugRow, bug_cells, bug_in, IsBugRow, key_in, members_in, MarkRow, mark_cells, mark_in, IsMarkRow, marks_in, BlockRow, block_cells, block_in, IsBlockRow, blockers_in, NodeRow, node_cells, node_in, IsNodeRow, nodes_in, NearestRow, nearest_cells, nearest_in, IsNearestRow, near_in, TextRow, text_cells, text_row_in, IsTextRow, texts_in, MessageRow, message_cells, message_in, IsMessageRow, messages_in, OutcomeRow, outcome_cells, outcome_row_in, IsOutcomeRow, outcomes_in, NumberRow, number_cells, number_row_in, IsNumberRow, outcome_numbers_in}
use Rattle.table_schema.proofs.CellLemmas.{number_key, text_key}
use Rattle.table_schema.proofs.RowsBack.{set_back, mark_back, nearest_back, node_back, outcome_row_back}
use Rattle.table_schema.proofs.SchemaLemmas.{sets_plain, bugs_plain, marks_plain, blocks_plain, nodes_plain, nearest_plain, affects_plain, messages_plain, outcomes_plain, outcome_numbers_plain}
use Rattle.table_schema.proofs.TableLemmas.{DeskTable, KeyedTable}

abbrev pub sets : DeskTable SetRow
sets = record {
  row = record { cells = set_cells; back = set_in; IsGood = IsSetRow; same = λ x good. set_back x };
  place = record { at = 1; table = sets_table; is_plain = sets_plain; found = refl; bare = (refl, refl); still = λ olds news. refl };
  says = λ xs c. record c { fields = fields_in xs };
  part = λ db. refl;
  rest = λ db rows. refl;
  typed = λ db all. all.sets;
  shown = λ db rows all are. record { meta = all.meta; sets = are; bugs = all.bugs; marks = all.marks; blocks = all.blocks; nodes = all.nodes; nearest = all.nearest; affects = all.affects; messages = all.messages; outcomes = all.outcomes; outcome_numbers = all.outcome_numbers };
}

abbrev pub bugs : DeskTable BugRow
bugs = record {
  row = record { cells = bug_cells; back = bug_in; IsGood = IsBugRow; same = λ x good. refl };
  place = record { at = 2; table = bugs_table; is_plain = bugs_plain; found = refl; bare = (refl, refl); still = λ olds news. refl };
  says = λ xs c. record c { key = key_in xs; members = members_in xs };
  part = λ db. refl;
  rest = λ db rows. refl;
  typed = λ db all. all.bugs;
  shown = λ db rows all are. record { meta = all.meta; sets = all.sets; bugs = are; marks = all.marks; blocks = all.blocks; nodes = all.nodes; nearest = all.nearest; affects = all.affects; messages = all.messages; outcomes = all.outcomes; outcome_numbers = all.outcome_numbers };
}

abbrev pub marks : DeskTable MarkRow
marks = record {
  row = record { cells = mark_cells; back = mark_in; IsGood = IsMarkRow; same = λ x good. mark_back x };
  place = record { at = 3; table = marks_table; is_plain = marks_plain; found = refl; bare = (refl, refl); still = λ olds news. refl };
  says = λ xs c. record c { found = marks_in Found xs; fixed = marks_in Fixed xs };
  part = λ db. refl;
  rest = λ db rows. refl;
  typed = λ db all. all.marks;
  shown = λ db rows all are. record { meta = all.meta; sets = all.sets; bugs = all.bugs; marks = are; blocks = all.blocks; nodes = all.nodes; nearest = all.nearest; affects = all.affects; messages = all.messages; outcomes = all.outcomes; outcome_numbers = all.outcome_numbers };
}

abbrev pub keyed_marks : KeyedTable MarkRow
keyed_marks = record {
  base = marks;
  id = λ x. (x.id, refl);
  key = marks_key;
  alike = λ x y. eqb x.key y.key && (kind_number x.kind == kind_number y.kind && same_node x.node y.node);
  agrees = λ x y. simp (number_key, text_key, and_true);
  only = λ p. refl;
}

abbrev pub blocks : DeskTable BlockRow
blocks = record {
  row = record { cells = block_cells; back = block_in; IsGood = IsBlockRow; same = λ x good. refl };
  place = record { at = 4; table = blocks_table; is_plain = blocks_plain; found = refl; bare = (refl, refl); still = λ olds news. refl };
  says = λ xs c. record c { blockers = blockers_in xs };
  part = λ db. refl;
  rest = λ db rows. refl;
  typed = λ db all. all.blocks;
  shown = λ db rows all are. record { meta = all.meta; sets = all.sets; bugs = all.bugs; marks = all.marks; blocks = are; nodes = all.nodes; nearest = all.nearest; affects = all.affects; messages = all.messages; outcomes = all.outcomes; outcome_numbers = all.outcome_numbers };
}

abbrev pub keyed_blocks : KeyedTable BlockRow
keyed_blocks = record {
  base = blocks;
  id = λ x. (x.id, refl);
  key = blocks_key;
  alike = λ x y. eqb x.key y.key && eqb x.blocker y.blocker;
  agrees = λ x y. simp (number_key, and_true);
  only = λ p. refl;
}

abbrev pub nodes : DeskTable NodeRow
nodes = record {
  row = record { cells = node_cells; back = node_in; IsGood = IsNodeRow; same = λ x good. node_back x };
  place = record { at = 5; table = nodes_table; is_plain = nodes_plain; found = refl; bare = (refl, refl); still = λ olds news. refl };
  says = λ xs c. record c { nodes = nodes_in xs };
  part = λ db. refl;
  rest = λ db rows. refl;
  typed = λ db all. all.nodes;
  shown = λ db rows all are. record { meta = all.meta; sets = all.sets; bugs = all.bugs; marks = all.marks; blocks = all.blocks; nodes = are; nearest = all.nearest; affects = all.affects; messages = all.messages; outcomes = all.outcomes; outcome_numbers = all.outcome_numbers };
}

abbrev pub keyed_nodes : KeyedTable NodeRow
keyed_nodes = record {
  base = nodes;
  id = λ x. (x.id, refl);
  key = nodes_key;
  alike = λ x y. same_node x.node y.node;
  agrees = λ x y. simp (text_key, and_true);
  only = λ p. refl;
}

abbrev pub nearest : DeskTable NearestRow
nearest = record {
  row = record { cells = nearest_cells; back = nearest_in; IsGood = IsNearestRow; same = λ x good. nearest_back x };
  place = record { at = 6; table = nearest_table; is_plain = nearest_plain; found = refl; bare = (refl, refl); still = λ olds news. refl };
  says = λ xs c. record c { near = near_in xs };
  part = λ db. refl;
  rest = λ db rows. refl;
  typed = λ db all. all.nearest;
  shown = λ db rows all are. record { meta = all.meta; sets = all.sets; bugs = all.bugs; marks = all.marks; blocks = all.blocks; nodes = all.nodes; nearest = are; affects = all.affects; messages = all.messages; outcomes = all.outcomes; outcome_numbers = all.outcome_numbers };
}

abbrev pub keyed_nearest : KeyedTable NearestRow
keyed_nearest = record {
  base = nearest;
  id = λ x. (x.id, refl);
  key = nearest_key;
  alike = λ x y. eqb x.key y.key && same_node x.node y.node;
  agrees = λ x y. simp (number_key, text_key, and_true);
  only = λ p. refl;
}

abbrev pub affects : DeskTable TextRow
affects = record {
  row = record { cells = text_cells; back = text_row_in; IsGood = IsTextRow; same = λ x good. refl };
  place = record { at = 7; table = affects_table; is_plain = affects_plain; found = refl; bare = (refl, refl); still = λ olds news. refl };
  says = λ xs c. record c { affects = texts_in xs };
  part = λ db. refl;
  rest = λ db rows. refl;
  typed = λ db all. all.affects;
  shown = λ db rows all are. record { meta = all.meta; sets = all.sets; bugs = all.bugs; marks = all.marks; blocks = all.blocks; nodes = all.nodes; nearest = all.nearest; affects = are; messages = all.messages; outcomes = all.outcomes; outcome_numbers = all.outcome_numbers };
}

abbrev pub keyed_affects : KeyedTable TextRow
keyed_affects = record {
  base = affects;
  id = λ x. (x.id, refl);
  key = affects_key;
  alike = λ x y. eqb x.key y.key && bytes_eq x.text y.text;
  agrees = λ x y. simp (number_key, text_key, and_true);
  only = λ p. refl;
}

abbrev pub messages : DeskTable MessageRow
messages = record {
  row = record { cells = message_cells; back = message_in; IsGood = IsMessageRow; same = λ x good. refl };
  place = record { at = 8; table = messages_table; is_plain = messages_plain; found = refl; bare = (refl, refl); still = λ olds news. refl };
  says = λ xs c. record c { messages = messages_in xs };
  part = λ db. refl;
  rest = λ db rows. refl;
  typed = λ db all. all.messages;
  shown = λ db rows all are. record { meta = all.meta; sets = all.sets; bugs = all.bugs; marks = all.marks; blocks = all.blocks; nodes = all.nodes; nearest = all.nearest; affects = all.affects; messages = are; outcomes = all.outcomes; outcome_numbers = all.outcome_numbers };
}

abbrev pub keyed_messages : KeyedTable MessageRow
keyed_messages = record {
  base = messages;
  id = λ x. (x.id, refl);
  key = messages_key;
  alike = λ x y. bytes_eq x.message_id y.message_id;
  agrees = λ x y. simp (text_key, and_true);
  only = λ p. refl;
}

abbrev pub outcomes : DeskTable OutcomeRow
outcomes = record {
  row = record { cells = outcome_cells; back = outcome_row_in; IsGood = IsOutcomeRow; same = λ x good. outcome_row_back x good };
  place = record { at = 9; table = outcomes_table; is_plain = outcomes_plain; found = refl; bare = (refl, refl); still = λ olds news. refl };
  says = λ xs c. record c { outcomes = outcomes_in xs };
  part = λ db. refl;
  rest = λ db rows. refl;
  typed = λ db all. all.outcomes;
  shown = λ db rows all are. record { meta = all.meta; sets = all.sets; bugs = all.bugs; marks = all.marks; blocks = all.blocks; nodes = all.nodes; nearest = all.nearest; affects = all.affects; messages = all.messages; outcomes = are; outcome_numbers = all.outcome_numbers };
}

abbrev pub keyed_outcomes : KeyedTable OutcomeRow
keyed_outcomes = record {
  base = outcomes;
  id = λ x. (x.id, refl);
  key = outcomes_key;
  alike = λ x y. bytes_eq x.message_id y.message_id && eqb x.place y.place;
  agrees = λ x y. simp (number_key, text_key, and_true);
  only = λ p. refl;
}

abbrev pub outcome_numbers : DeskTable NumberRow
outcome_numbers = record {
  row = record { cells = number_cells; back = number_row_in; IsGood = IsNumberRow; same = λ x good. refl };
  place = record { at = 10; table = outcome_numbers_table; is_plain = outcome_numbers_plain; found = refl; bare = (refl, refl); still = λ olds news. refl };
  says = λ xs c. record c { outcome_numbers = outcome_numbers_in xs };
  part = λ db. refl;
  rest = λ db rows. refl;
  typed = λ db all. all.outcome_numbers;
  shown = λ db rows all are. record { meta = all.meta; sets = all.sets; bugs = all.bugs; marks = all.marks; blocks = all.blocks; nodes = all.nodes; nearest = all.nearest; affects = all.affects; messages = all.messages; outcomes = all.outcomes; outcome_numbers = are };
}

abbrev pub keyed_outcome_numbers : KeyedTable NumberRow
keyed_outcome_numbers = record {
  base = outcome_numbers;
  id = λ x. (x.id, refl);
  key = outcome_numbers_key;
  alike = λ x y. bytes_eq x.message_id y.message_id && (eqb x.place y.place && eqb x.number y.number);
  agrees = λ x y. simp (number_key, text_key, and_true);
  only = λ p. refl;
}
