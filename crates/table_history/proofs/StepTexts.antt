-- What the text of each table and index makes, and so each step of the history.
use Rattle.table_history.proofs.Imports.{Step, texts, history, schema_at, without_steps, no_tables}
use Rattle.table_schema.proofs.Exports.{◌<◌, ℕ, zero, suc, List, [], ◌∷◌, take, drop, get_or, refl, arith, is_utf8, chars, value_cmp, understood, Schema, Trees, Index, everything, begins, is_free_name, fits_kind, meta_table, sets_table, bugs_table, marks_table, blocks_table, nodes_table, nearest_table, affects_table, messages_table, outcomes_table, outcome_numbers_table, sets_by_package, bugs_by_set, marks_by_node, blocks_by_blocker, affects_by_package, first_schema, second_schema, desk_schema}
use Rattle.sqlite_catalog.specs.Change.{KeepsRows}
use Rattle.sqlite_trees.specs.Sound.{same_name}
use Rattle.table_history.proofs.BuildLemmas.{AddsTable, AddsIndex, table_adds, index_adds}
use Rattle.table_history.proofs.StepLemmas.{Leads, made, table, index, AreSteps, AfterEach, after_any}

-- the first tables and indexes of the desk's schema, so many of each
abbrev part : ℕ → ℕ → Schema
part tables indexes = record { tables = take tables desk_schema.tables; indexes = take indexes desk_schema.indexes; views = [] }

-- a text of a step, each counted from 0
abbrev text : ℕ → ℕ → List ℕ
text step place = get_or (get_or texts step []) place []

-- an index as a text defines it, before it has a place
abbrev unplaced : Index → Index
unplaced i = record i { tree = 0 }

-- ---- schema 1

adds_meta : AddsTable (part 0 0) (text 0 0) meta_table (part 1 0)
unfolding understood everything same_name begins is_free_name fits_kind is_utf8 chars value_cmp lib.Utf8.encode lib.Ieee.is_nan lib.Ieee.lt
adds_meta = table_adds _ _ _ _ refl (refl, refl) refl refl refl (omega arith) refl refl refl refl tt refl refl refl tt refl refl refl refl

adds_sets : AddsTable (part 1 0) (text 0 1) sets_table (part 2 0)
unfolding understood everything same_name begins is_free_name fits_kind is_utf8 chars value_cmp lib.Utf8.encode lib.Ieee.is_nan lib.Ieee.lt
adds_sets = table_adds _ _ _ _ refl (refl, refl) refl refl refl (omega arith) refl refl refl refl tt refl refl refl tt refl refl refl refl

adds_bugs : AddsTable (part 2 0) (text 0 2) bugs_table (part 3 0)
unfolding understood everything same_name begins is_free_name fits_kind is_utf8 chars value_cmp lib.Utf8.encode lib.Ieee.is_nan lib.Ieee.lt
adds_bugs = table_adds _ _ _ _ refl (refl, refl) refl refl refl (omega arith) refl refl refl refl tt refl refl refl tt refl refl refl refl

adds_marks : AddsTable (part 3 0) (text 0 3) marks_table (part 4 1)
unfolding understood everything same_name begins is_free_name fits_kind is_utf8 chars value_cmp lib.Utf8.encode lib.Ieee.is_nan lib.Ieee.lt
adds_marks = table_adds _ _ _ _ refl (refl, refl) refl refl refl (omega arith) refl refl refl refl (refl, tt) refl refl refl (refl, tt) refl refl refl refl

adds_blocks : AddsTable (part 4 1) (text 0 4) blocks_table (part 5 2)
unfolding understood everything same_name begins is_free_name fits_kind is_utf8 chars value_cmp lib.Utf8.encode lib.Ieee.is_nan lib.Ieee.lt
adds_blocks = table_adds _ _ _ _ refl (refl, refl) refl refl refl (omega arith) refl refl refl refl (refl, tt) refl refl refl (refl, tt) refl refl refl refl

adds_nodes : AddsTable (part 5 2) (text 0 5) nodes_table (part 6 3)
unfolding understood everything same_name begins is_free_name fits_kind is_utf8 chars value_cmp lib.Utf8.encode lib.Ieee.is_nan lib.Ieee.lt
adds_nodes = table_adds _ _ _ _ refl (refl, refl) refl refl refl (omega arith) refl refl refl refl (refl, tt) refl refl refl (refl, tt) refl refl refl refl

adds_nearest : AddsTable (part 6 3) (text 0 6) nearest_table (part 7 4)
unfolding understood everything same_name begins is_free_name fits_kind is_utf8 chars value_cmp lib.Utf8.encode lib.Ieee.is_nan lib.Ieee.lt
adds_nearest = table_adds _ _ _ _ refl (refl, refl) refl refl refl (omega arith) refl refl refl refl (refl, tt) refl refl refl (refl, tt) refl refl refl refl

adds_sets_by_package : AddsIndex (part 7 4) (text 0 7) 1 sets_table (unplaced sets_by_package) (part 7 5)
unfolding understood everything same_name begins is_free_name fits_kind is_utf8 chars value_cmp lib.Utf8.encode lib.Ieee.is_nan lib.Ieee.lt
adds_sets_by_package = index_adds _ _ _ _ _ _ refl (refl, refl) refl refl refl (omega arith) refl refl refl refl refl refl refl refl refl refl refl refl

adds_bugs_by_set : AddsIndex (part 7 5) (text 0 8) 2 bugs_table (unplaced bugs_by_set) (part 7 6)
unfolding understood everything same_name begins is_free_name fits_kind is_utf8 chars value_cmp lib.Utf8.encode lib.Ieee.is_nan lib.Ieee.lt
adds_bugs_by_set = index_adds _ _ _ _ _ _ refl (refl, refl) refl refl refl (omega arith) refl refl refl refl refl refl refl refl refl refl refl refl

adds_marks_by_node : AddsIndex (part 7 6) (text 0 9) 3 marks_table (unplaced marks_by_node) (part 7 7)
unfolding understood everything same_name begins is_free_name fits_kind is_utf8 chars value_cmp lib.Utf8.encode lib.Ieee.is_nan lib.Ieee.lt
adds_marks_by_node = index_adds _ _ _ _ _ _ refl (refl, refl) refl refl refl (omega arith) refl refl refl refl refl refl refl refl refl refl refl refl

adds_blocks_by_blocker : AddsIndex (part 7 7) (text 0 10) 4 blocks_table (unplaced blocks_by_blocker) (part 7 8)
unfolding understood everything same_name begins is_free_name fits_kind is_utf8 chars value_cmp lib.Utf8.encode lib.Ieee.is_nan lib.Ieee.lt
adds_blocks_by_blocker = index_adds _ _ _ _ _ _ refl (refl, refl) refl refl refl (omega arith) refl refl refl refl refl refl refl refl refl refl refl refl

first : Leads no_tables (get_or texts 0 []) first_schema.tables first_schema
first = table adds_meta (table adds_sets (table adds_bugs (table adds_marks (table adds_blocks (table adds_nodes (table adds_nearest (index adds_sets_by_package (index adds_bugs_by_set (index adds_marks_by_node (index adds_blocks_by_blocker made))))))))))

-- ---- schema 2

adds_affects : AddsTable (part 7 8) (text 1 0) affects_table (part 8 9)
unfolding understood everything same_name begins is_free_name fits_kind is_utf8 chars value_cmp lib.Utf8.encode lib.Ieee.is_nan lib.Ieee.lt
adds_affects = table_adds _ _ _ _ refl (refl, refl) refl refl refl (omega arith) refl refl refl refl (refl, tt) refl refl refl (refl, tt) refl refl refl refl

adds_affects_by_package : AddsIndex (part 8 9) (text 1 1) 7 affects_table (unplaced affects_by_package) (part 8 10)
unfolding understood everything same_name begins is_free_name fits_kind is_utf8 chars value_cmp lib.Utf8.encode lib.Ieee.is_nan lib.Ieee.lt
adds_affects_by_package = index_adds _ _ _ _ _ _ refl (refl, refl) refl refl refl (omega arith) refl refl refl refl refl refl refl refl refl refl refl refl

second : Leads first_schema (get_or texts 1 []) (affects_table ∷ []) second_schema
second = table adds_affects (index adds_affects_by_package made)

-- ---- schema 3

adds_messages : AddsTable (part 8 10) (text 2 0) messages_table (part 9 11)
unfolding understood everything same_name begins is_free_name fits_kind is_utf8 chars value_cmp lib.Utf8.encode lib.Ieee.is_nan lib.Ieee.lt
adds_messages = table_adds _ _ _ _ refl (refl, refl) refl refl refl (omega arith) refl refl refl refl (refl, tt) refl refl refl (refl, tt) refl refl refl refl

adds_outcomes : AddsTable (part 9 11) (text 2 1) outcomes_table (part 10 12)
unfolding understood everything same_name begins is_free_name fits_kind is_utf8 chars value_cmp lib.Utf8.encode lib.Ieee.is_nan lib.Ieee.lt
adds_outcomes = table_adds _ _ _ _ refl (refl, refl) refl refl refl (omega arith) refl refl refl refl (refl, tt) refl refl refl (refl, tt) refl refl refl refl

adds_outcome_numbers : AddsTable (part 10 12) (text 2 2) outcome_numbers_table (part 11 13)
unfolding understood everything same_name begins is_free_name fits_kind is_utf8 chars value_cmp lib.Utf8.encode lib.Ieee.is_nan lib.Ieee.lt
adds_outcome_numbers = table_adds _ _ _ _ refl (refl, refl) refl refl refl (omega arith) refl refl refl refl (refl, tt) refl refl refl (refl, tt) refl refl refl refl

third : Leads second_schema (get_or texts 2 []) (messages_table ∷ outcomes_table ∷ outcome_numbers_table ∷ []) desk_schema
third = table adds_messages (table adds_outcomes (table adds_outcome_numbers made))

-- ---- the history

pub steps : AreSteps no_tables history
steps = (first, (second, (third, tt)))

-- the tables of a schema, and meta, keep their rows where those of later steps are emptied
abbrev Keeps : Schema → List Step → Type 0
Keeps schema later = (db : Trees) → KeepsRows (meta_table ∷ schema.tables) (without_steps later db) db

keeps : AfterEach Keeps history
keeps = (λ db. (refl, (refl, (refl, (refl, (refl, (refl, (refl, (refl, tt)))))))), (λ db. (refl, (refl, (refl, (refl, (refl, (refl, (refl, (refl, (refl, tt))))))))), (λ db. (refl, (refl, (refl, (refl, (refl, (refl, (refl, (refl, (refl, (refl, (refl, (refl, tt)))))))))))), tt)))

pub keeps_at : (k : ℕ) → 0 < k → Keeps (schema_at k) (drop k history)
keeps_at zero some = absurd (omega arith)
keeps_at (suc k) some = after_any Keeps first_schema (drop 1 history) k keeps.0 keeps.1
