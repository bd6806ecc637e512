-- The names that the proofs of tables cite, passed on from one place.
-- It declares nothing.
pub use Rattle.ancestry.proofs.LinkLemmas.{ascends_put, same_links}
pub use Rattle.bug_record.proofs.MarkLemmas.{has-with_node, same-sorted_nodes, sorted-with_node}
pub use Rattle.base_sequences.proofs.OrderedSetLemmas.{in-each, sorted-each}
pub use Rattle.bug_record.proofs.PackageLemmas.{names-none, same-sorted_names}
pub use Rattle.bug_record.specs.PackageSets.{has_name, name_cmp, with_name}
pub use Rattle.bug_record.specs.Sets.{has}
pub use Rattle.base_faults.specs.declared.store_fault.StoreFault.{StoreFault}
pub use Rattle.base_faults.specs.declared.store_fault.StoreFault.TheVariants.{Memory}
pub use Rattle.debver.specs.Cut.{IsVersion, cut}
pub use Rattle.debver.specs.Names.{IsName, in_name, name_fault}
pub use Rattle.debver.specs.Parts.{IsEpoch, IsRevision, epoch_text, in_revision, in_upstream, revision_text, written}
pub use Rattle.table_content.specs.Content.{Content}
pub use Rattle.table_content.specs.Edits.{edited, edited_all, placed, places_of, put_at}
pub use Rattle.table_encodings.specs.Encodings.{flag, flag_in, kind_in, kind_number, severity_in}
pub use Rattle.table_content.specs.Free.{AreFree, IsFree}
pub use Rattle.table_encodings.specs.Outcomes.{outcome_field, outcome_in, outcome_kind, outcome_node, outcome_number}
pub use Rattle.table_content.specs.declared.edit.Edit.{Edit}
pub use Rattle.table_schema.specs.BlockRows.{BlockRow, IsBlockRow, block_cells, block_in, blockers_in}
pub use Rattle.table_schema.specs.BugRows.{BugRow, IsBugRow, bug_cells, bug_in, key_in, member_of, members_in}
pub use Rattle.table_schema.specs.Cells.{maybe_number, maybe_text}
pub use Rattle.table_schema.specs.LastRow.{last_row, or_else}
pub use Rattle.table_schema.specs.MarkRows.{IsMarkRow, MarkRow, mark_cells, mark_in, marks_in, with_nodes}
pub use Rattle.table_schema.specs.MessageRows.{IsMessageRow, MessageRow, message_cells, message_in, messages_in}
pub use Rattle.table_schema.specs.NearestRows.{IsNearestRow, NearestRow, near_in, nearest_cells, nearest_in}
pub use Rattle.table_schema.specs.NodeRows.{IsNodeRow, NodeRow, node_between, node_cells, node_in, nodes_in, with_links}
pub use Rattle.table_schema.specs.NumberRows.{IsNumberRow, NumberRow, number_cells, number_row_in, outcome_numbers_in}
pub use Rattle.table_schema.specs.OutcomeRows.{IsOutcomeRow, OutcomeRow, outcome_cells, outcome_row_in, outcomes_in, placed_each}
pub use Rattle.table_schema.specs.Rows.{AreShown, content_of, meta_cells, next_in}
pub use Rattle.table_schema.specs.SetRows.{IsSetRow, SetRow, fields_in, set_cells, set_in}
pub use Rattle.table_schema.specs.Steps.{Acts, Goes, IsInside, Plays, PlaysAll, Reads, Serves, seen}
pub use Rattle.table_schema.specs.Tables.{AFFECTS, BLOCKS, BUGS, MARKS, MESSAGES, META, NEAREST, NODES, OUTCOMES, OUTCOME_NUMBERS, SETS, affects_key, affects_table, blocks_key, blocks_table, bugs_table, desk_schema, marks_key, marks_table, messages_key, messages_table, meta_table, nearest_key, nearest_table, nodes_key, nodes_table, outcome_numbers_key, outcome_numbers_table, outcomes_key, outcomes_table, sets_table}
pub use Rattle.table_schema.specs.TextRows.{IsTextRow, TextRow, text_cells, text_row_in, texts_in}
pub use Rattle.table_forms.proofs.AnswerLemmas.{number_at, take_next}
pub use Rattle.table_forms.proofs.ChangeLemmas.{is_index, stays}
pub use Rattle.table_forms.proofs.DeleteLemmas.{DeletesRows, deletes}
pub use Rattle.table_forms.proofs.ErrorLemmas.{HasNoReferences, IsCallOf}
pub use Rattle.table_forms.proofs.FailLemmas.{query_fault_or_same}
pub use Rattle.table_forms.proofs.FaultLemmas.{faults_later, memory_fault, memory_faults}
pub use Rattle.table_forms.proofs.InsertLemmas.{InsertsRow, IsInserted, inserts}
pub use Rattle.table_forms.proofs.QueryErrors.{IsQueryOf, query_free}
pub use Rattle.table_forms.proofs.QueryLemmas.{Finds, finds, found, map_map}
pub use Rattle.table_forms.proofs.ReadLemmas.{numbers_in_order, shown_open, shown_same}
pub use Rattle.table_forms.proofs.RefusalLemmas.{IsGoodRow, IsPlainTable, delete_free, insert_free}
pub use Rattle.table_forms.proofs.RowLemmas.{all_append, and_true, kept_rows, rows_less, rows_more, same_number, truth_is}
pub use Rattle.table_forms.specs.Faults.{IsFaultOf, fault_of, told}
pub use Rattle.table_forms.specs.Forms.{Changes, inserted, passes, query_of}
pub use Rattle.table_forms.specs.Numbers.{number_row, with_number, with_numbers}
pub use Rattle.table_forms.specs.TypedRows.{AreRows}
pub use Rattle.sqlite.proofs.Callers.{IsPlain, one_permutation, reads_as}
pub use Rattle.sqlite.specs.Command.TheVariants.{Delete, Insert}
pub use Rattle.sqlite.specs.Edit.{is_taken, next_rowid}
pub use Rattle.sqlite.specs.Effect.{Database, IsDatabase, value_rows}
unfoldable pub use Rattle.sqlite.specs.Ops.{binary, unary}
pub use Rattle.sqlite.specs.Order.{Row}
unfoldable pub use Rattle.sqlite.specs.Order.{value_cmp}
pub use Rattle.sqlite.specs.Query.{Output, Query, output, output_cmp}
pub use Rattle.sqlite.specs.State.{ExecutesInside, FailsToShow, HasCleanDisk, IsRolledBack, IsTooLate, IsUnchanged, KeepsCommit, State, Survives}
unfoldable pub use Rattle.sqlite.specs.State.{FailsToQuery, IsNotRun, Shown}
pub use Rattle.sqlite.specs.Table.{Table}
pub use Rattle.sqlite.specs.Term.{Term, col, eval_all}
pub use Rattle.sqlite.specs.Tree.{IsTable, Trees, put_row, rowid}
pub use Rattle.sqlite.specs.Values.{bound_value, or_null}
pub use Rattle.sqlite.specs.declared.error.Error.{Error}
pub use Rattle.sqlite.specs.declared.types.Value.TheVariants.{Int, Null, Text}
pub use Rattle.sqlite_rules.proofs.ListLemmas.{all_has, some_from}
pub use Rattle.sqlite_schema.specs.Rules.{Keeps, agree, clashes, differ, equal, guards, references_fit}
pub use Rattle.sqlite_schema.specs.declared.schema.Constraint.TheVariants.{Unique}
pub use Rattle.sqlite_schema.specs.declared.schema.Index.{Index}
pub use Rattle.sqlite_trees.proofs.TreeLemmas.{IsTable-put_row, all-put_row}
pub use Rattle.sqlite_trees.specs.Tree.{IsAscending, with_tree}
pub use Rattle.sqlite_typing.specs.Types.{accepts_program, accepts_terms}
pub use Rattle.sqlite_value.proofs.OrderLemmas.{then-Equal, value_cmp-Int, value_cmp-Text}
pub use Rattle.sqlite_value.specs.Keys.{plain}
unfoldable pub use Rattle.sqlite_value.specs.Keys.{first_key}
pub use Rattle.sqlite_value.specs.declared.keys.Key.{Key}
pub use Rattle.std.proofs.Common.{Bool, Bor, Equal, Err, Greater, IfErr, IfOk, IsTrue, Less, List, None, Ok, Option, Ordering, Result, Some, [], add-one, ap, append-nil, arith, cond, drop, drop-cons, eqb, false, filter, flat_map, get_or, if◌then◌else◌, inl, inr, int_cmp, is_lt, is_none, is_some, length, lit<, map, nat_lt, not, option_copied, option_map, pos, refl, rules, slice_get, subst, subst₂, suc, sym, take, true, true≢false, unwrap_or, zero, ℕ, ℤ, ◌&&◌, ◌++◌, ◌+◌, ◌/◌, ◌<◌, ◌==◌, ◌||◌, ◌∙◌, ◌∷◌, ◌≡◌, ◌≢◌, ◌≤◌, ◌⊎◌}
pub use Rattle.std.proofs.lemmas.Bool.{and_from, and_parts, eq-eqb, eqb-true, false_from_ne_true}
pub use Rattle.std.proofs.lemmas.Bool.Decides.{nat_tests}
pub use Rattle.std.proofs.lemmas.Int.{ints}
pub use Rattle.std.proofs.lemmas.List.Elements.{All-from_recursion, recursion_from_All}
pub use Rattle.std.proofs.lemmas.List.Sorted.{All-permutation, IsPermutation-append_right, IsPermutation-cons, IsPermutation-map, IsPermutation-middle, IsPermutation-refl, IsPermutation-sym, IsPermutation-trans, length_permutation, list_any-IsPermutation}
pub use Rattle.std.specs.Cmp.Lexicographic.{bytes_decides, nat_list_cmp_total, nat_list_eq_equiv, texts_ties}
pub use Rattle.std.specs.List.{AllByRecursion, list_all, list_any}
pub use Rattle.std.specs.List.Sorted.{IsPermutation}
unfoldable pub use Rattle.std.specs.List.Sorted.{IsStrictlySortedBy}
pub use Rattle.std.specs.Option.{option_map_or}
pub use Rattle.std.specs.Ordering.{is_eq, match_ordering}
pub use Rattle.std.specs.Prelude.{IsUtf8, ⊤}
pub use Rattle.std.specs.Str.{bytes_eq}
pub use Rattle.version_nodes.proofs.NodeLemmas.{at_first, known_others, known_put, past_first, put_step, same_true, ties_node, ties_same}
pub use Rattle.version_nodes.specs.NodeLaws.{same_node_equiv}
pub use Rattle.version_nodes.specs.Nodes.{IsNode, IsRead, Node, is_slash, node, node_at, node_cmp, node_of, node_of_text, same_node}
pub use Rattle.version_nodes.specs.Trees.{Ancestry, has_node, known_at, knows, no_nodes}
pub use Rattle.version_nodes.specs.declared.statuses.MarkKind.{MarkKind}
pub use Rattle.version_nodes.specs.declared.statuses.MarkKind.TheVariants.{Fixed, Found}
