-- The names that the proofs of the crates above cite, passed on from one place.
-- It declares nothing.
pub use Rattle.version_nodes.specs.Branches.{IsBranched, branched}
pub use Rattle.bug_record.specs.Images.{FitsDesk, HasMember, IsSetOf}
pub use Rattle.bug_record.specs.Ordered.{with_each}
pub use Rattle.bug_record.specs.PackageSets.{name_cmp}
pub use Rattle.bug_record.specs.Sets.{Each, has}
pub use Rattle.bug_record.specs.Severities.{rank}
pub use Rattle.base_words.specs.Texts.{IfGiven, IsText}
pub use Rattle.bug_record.specs.declared.bug.Member.{Member}
pub use Rattle.bug_record.specs.declared.command.Change.{Change}
pub use Rattle.bug_record.specs.declared.outcome.Outcome.{Outcome}
pub use Rattle.bug_record.specs.declared.outcome.Outcome.TheVariants.{Changed, Refused, Stopped}
pub use Rattle.base_faults.specs.declared.store_fault.StoreFault.{StoreFault}
pub use Rattle.base_faults.specs.declared.store_fault.StoreFault.TheVariants.{Device, Foreign, Full, Memory}
pub use Rattle.bug_record.specs.declared.severity.Severity.TheVariants.{Critical}
pub use Rattle.table_content.proofs.AfterLemmas.{after_keeping, after_kept}
pub use Rattle.table_content.proofs.ChangeLemmas.{change_desk, change_kept}
pub use Rattle.table_content.proofs.ClosedLemmas.{no_nodes, put_nodes}
pub use Rattle.table_content.specs.Branches.{with_nodes}
pub use Rattle.table_content.specs.Changes.{FitsContent, all_stay, changed, cleared_for}
pub use Rattle.table_content.specs.Content.{Content, no_content}
pub use Rattle.table_content.specs.Edits.{edited, placed, places_of, put_at, put_of}
pub use Rattle.table_encodings.specs.Encodings.{flag, flag_in, kind_in, kind_number, severity_in, tags_number}
pub use Rattle.table_content.specs.Free.{IsFree, marks_of}
pub use Rattle.table_content.specs.KeptOutcomes.{MayBePut, changed_by, kept_after}
pub use Rattle.table_content.specs.Kept.{IsKeptContent}
pub use Rattle.table_encodings.specs.Outcomes.{bare, outcome_field, outcome_kind, outcome_node, outcome_number}
pub use Rattle.table_content.specs.View.{desk_in, keeping_in}
pub use Rattle.table_content.specs.declared.edit.Edit.TheVariants.{DropAffects, DropBlockers, DropFields, DropLink, DropMarks, DropMember, DropNear, DropNearAt, PutAffects, PutBlocker, PutFields, PutLink, PutMark, PutMember, PutMessage, PutNear, PutOutcome, PutOutcomeNumber}
pub use Rattle.table_content.specs.declared.edit.ToldOutcome.{ToldOutcome}
pub use Rattle.table_schema.proofs.BugLists.{Rises, all_members, bug_number, member_added, member_dropped}
pub use Rattle.table_schema.proofs.CellLemmas.{cast_int, cast_null, maybe_bound, same_text}
pub use Rattle.table_schema.proofs.ContentLemmas.{AreSame, remade, same_content, same_shown}
pub use Rattle.table_schema.proofs.DeskTables.{affects, blocks, bugs, keyed_affects, keyed_blocks, keyed_marks, keyed_messages, keyed_nearest, keyed_nodes, keyed_outcome_numbers, keyed_outcomes, marks, messages, nearest, nodes, outcome_numbers, outcomes, sets}
pub use Rattle.table_schema.proofs.KeyLemmas.{AreApart, rows_apart}
pub use Rattle.table_schema.proofs.LastLists.{last_good, none_said, numbered_left, numbered_more, one_alike, one_kept, one_numbered, said_left, said_more}
pub use Rattle.table_schema.proofs.MarkLists.{mark_rows, same_nodes}
pub use Rattle.table_schema.proofs.MetaLemmas.{meta_remade, next_is}
pub use Rattle.table_schema.proofs.NodeLists.{link_of, links_are, no_row}
pub use Rattle.table_schema.proofs.NumberLists.{block_rows, number_rows, or_false}
pub use Rattle.table_schema.proofs.OutcomeLists.{outcome_rows, told}
pub use Rattle.table_schema.proofs.OwnerLists.{and_assoc, apart, none_left, one_more, owners_any, turned}
pub use Rattle.table_schema.proofs.RowsBack.{kind_back, parent_back}
pub use Rattle.table_schema.proofs.SchemaLemmas.{meta_plain, unique_at}
pub use Rattle.table_schema.proofs.StatementLemmas.{IsRead, IsWrite, Makes, acts_query, acts_write, reads_inside, reads_plain, serves_query, serves_write}
pub use Rattle.table_schema.proofs.StepLemmas.{acts_none, acts_stop, acts_weaker, done, failed, none, reads_work}
pub use Rattle.table_schema.proofs.TableLemmas.{adds, adds_numbered, clears, rises, seen_is}
pub use Rattle.table_schema.proofs.TableQueries.{answer_is, asks, asks_numbers, by_column, next_at, one_answer}
pub use Rattle.table_schema.proofs.TextLists.{same_names, text_rows}
pub use Rattle.table_schema.specs.BlockRows.{BlockRow, block_cells}
pub use Rattle.table_schema.specs.BugRows.{BugRow, IsBugRow, bug_cells, member_of, members_in}
pub use Rattle.table_schema.specs.Cells.{maybe_text, text_in}
pub use Rattle.table_schema.specs.LastRow.{last_row}
pub use Rattle.table_schema.specs.MarkRows.{IsMarkRow, MarkRow, mark_cells, marked_as, marks_in}
pub use Rattle.table_schema.specs.MessageRows.{IsMessageRow, MessageRow, message_cells, sent}
pub use Rattle.table_schema.specs.NearestRows.{NearestRow, is_of, near_in, nearest_cells}
pub use Rattle.table_schema.specs.NodeRows.{IsNodeRow, NodeRow, node_between, node_cells}
pub use Rattle.table_schema.specs.NumberRows.{NumberRow, number_cells, outcome_numbers_in}
pub use Rattle.table_schema.specs.OutcomeRows.{IsOutcomeRow, OutcomeRow, outcome_cells, placed_each, told_of}
pub use Rattle.table_schema.specs.Rows.{AreShown, content_of, meta_cells, next_in}
pub use Rattle.table_schema.specs.SetRows.{IsSetRow, SetRow, fields_in, fields_of_row, set_cells}
pub use Rattle.table_schema.specs.Steps.{Acts, Goes, IsInside, Serves, seen}
pub use Rattle.table_schema.specs.Tables.{AFFECTS, BLOCKS, BUGS, MARKS, MESSAGES, META, NEAREST, NODES, OUTCOMES, OUTCOME_NUMBERS, SETS, affects_by_package, affects_table, blocks_by_blocker, blocks_table, bugs_by_set, bugs_table, desk_schema, first_schema, marks_by_node, marks_table, messages_table, meta_table, nearest_table, nodes_table, outcome_numbers_table, outcomes_table, second_schema, sets_by_package, sets_table}
pub use Rattle.table_schema.specs.TextRows.{IsTextRow, TextRow, text_cells, texts_of}
pub use Rattle.version_marks.specs.declared.near.Near.{Near}
pub use Rattle.table_forms.proofs.AnswerLemmas.{number_at_front}
pub use Rattle.table_forms.proofs.CreateErrors.{IsSureIndex, IsSureTable, index_free, table_free}
pub use Rattle.table_forms.proofs.CreateLemmas.{CreatesIndex, CreatesTable, creates, creates_index, still_rows}
pub use Rattle.table_forms.proofs.DeleteErrors.{rowids_of}
pub use Rattle.table_forms.proofs.ErrorLemmas.{IsCallOf, tail_of, width_of}
pub use Rattle.table_forms.proofs.FailLemmas.{commit_free, query_fault_or_same}
pub use Rattle.table_forms.proofs.FaultLemmas.{failed_fault, fault_later, fault_sooner, faults_later, faults_sooner, memory_fault, memory_faults, only_memory}
pub use Rattle.table_forms.proofs.GreatestLemmas.{greatest_first, same_next}
pub use Rattle.table_forms.proofs.InsertLemmas.{InsertsRow, inserts}
pub use Rattle.table_forms.proofs.QueryErrors.{IsPageOf, IsQueryOf, page_free}
pub use Rattle.table_forms.proofs.QueryLemmas.{finds, finds_first, found, map_map}
pub use Rattle.table_forms.proofs.ReadLemmas.{pair_of, shown_open, shown_same}
pub use Rattle.table_forms.proofs.RefusalLemmas.{ChangesWell, IsGoodRow, changed_row, insert_free, update_free}
pub use Rattle.table_forms.proofs.RowLemmas.{all_filter, and_true, hits, holds_text, kept_rows, same_number}
pub use Rattle.table_forms.proofs.RowsInOrder.{good_at, row_at, take_more}
pub use Rattle.table_forms.proofs.UpdateLemmas.{UpdatesRows, update_edit, updates_one, updating}
pub use Rattle.table_forms.specs.Faults.{IsFaultOf, fault_of, written}
pub use Rattle.table_forms.specs.Forms.{Changes, equals, equals_at, first_of, inserted, passes, query_of}
pub use Rattle.table_forms.specs.Numbers.{AreGreatest, next_above, number_in, number_row}
pub use Rattle.sqlite.proofs.Callers.{IsPlain, command_of, one_permutation, reads_as, statement_of}
pub use Rattle.sqlite.proofs.StateLemmas.{survives_then, survives_weaker}
pub use Rattle.sqlite.specs.Change.{automatics, created, indexed, is_reserved, is_used, next_tree}
pub use Rattle.sqlite.specs.Closing.{HoldsAlone, IsCopied}
pub use Rattle.sqlite.specs.Command.TheVariants.{CreateIndex, CreateTable, Delete, Insert, Select, Update}
pub use Rattle.sqlite.specs.Compile.{first, index_defined_by, small, table_defined_by, with_command}
unfoldable pub use Rattle.sqlite.specs.Compile.{command, compiled, meaning, planned, read, returning}
pub use Rattle.sqlite.specs.Edit.{is_taken, next_rowid}
pub use Rattle.sqlite.specs.Effect.{Answers, Database, IsDatabase, Reads, RefusesQuery, RefusesToRead}
pub use Rattle.sqlite.specs.Files.{HoldsDatabase, file_state}
pub use Rattle.sqlite.specs.Held.{Held, state}
pub use Rattle.sqlite.specs.Listing.{IsSourceOf, if_select, misses_table, reads_listing}
unfoldable pub use Rattle.sqlite.specs.Listing.{listing_schema, understood}
pub use Rattle.sqlite.specs.Ops.{is_true}
unfoldable pub use Rattle.sqlite.specs.Ops.{binary}
pub use Rattle.sqlite.specs.Order.{Row, column}
unfoldable pub use Rattle.sqlite.specs.Order.{value_cmp}
pub use Rattle.sqlite.specs.Query.{Output, Query, end, inner, matches_as, output, output_cmp}
pub use Rattle.sqlite.specs.Schema.{Schema}
pub use Rattle.sqlite.specs.Source.TheVariants.{Values}
pub use Rattle.sqlite.specs.State.{ExecutesInside, FailsToShow, HasCleanDisk, IsLive, IsRolledBack, IsTooLate, IsUnchanged, KeepsCommit, KeepsCounts, Opens, Shows, ShowsRows, State, Survives}
unfoldable pub use Rattle.sqlite.specs.State.{FailsToQuery, IsNotRun, Shown}
pub use Rattle.sqlite.specs.Store.{Ghosts}
pub use Rattle.sqlite.specs.Table.{Table}
pub use Rattle.sqlite.specs.Term.{Term, col, eval_all, holds, lit, op2}
pub use Rattle.sqlite.specs.Tree.{Trees, put_row}
pub use Rattle.sqlite.specs.Values.{bound_value, or_null}
pub use Rattle.sqlite.specs.declared.error.Error.{Error}
pub use Rattle.sqlite.specs.declared.types.Value.{Value}
pub use Rattle.sqlite.specs.declared.types.Value.TheVariants.{Blob, Int, Null, Text}
pub use Rattle.sqlite_keyed.proofs.ListLemmas.{all_weaker, ascending-filter, ascending-map, ascending_weaker}
pub use Rattle.sqlite_keyed.proofs.SortLemmas.{sorted_unique}
pub use Rattle.sqlite_resolve.specs.Body.{heading, is_column, table_at, table_in, within}
unfoldable pub use Rattle.sqlite_resolve.specs.Body.{body, bound, bounds, inner_join, join, joins, matching, outputs, result, shared, shown, tests}
pub use Rattle.sqlite_resolve.specs.Expr.{lower, node_at, operated}
unfoldable pub use Rattle.sqlite_resolve.specs.Expr.{both, combine, lower_to, opened, operation, tests_alias, tests_truth, wanted_truth}
pub use Rattle.sqlite_resolve.specs.Lowering.{Checked, Lowering, and_then, carry, chosen, either, fail, fresh, get, height, last, lift, max_budget, max_height, max_slots, nothing, or_else, passed, pending, pure, written_or, ◌>>=◌, ◌>>◌}
unfoldable pub use Rattle.sqlite_resolve.specs.Lowering.{again, begin, finish, spend, take_slot}
unfoldable pub use Rattle.sqlite_resolve.specs.Order.{keys, sorts}
pub use Rattle.sqlite_resolve.specs.Scope.{Context, Name, column_at, find}
unfoldable pub use Rattle.sqlite_resolve.specs.Scope.{shown_again, term_of}
pub use Rattle.sqlite_resolve.specs.Select.{outermost}
unfoldable pub use Rattle.sqlite_resolve.specs.Select.{assembled, constant_or, having, named, paging, parts, ungrouped}
pub use Rattle.sqlite_resolve.specs.Terms.{conjuncts, number}
pub use Rattle.sqlite_resolve.specs.declared.compiled.Compiled.{Compiled}
pub use Rattle.sqlite_resolve.specs.declared.error.CompileError.TheVariants.{Mismatch, NeedsView, NoSuchColumn, NoSuchTable, TooBig}
pub use Rattle.sqlite_resolve.specs.declared.scope.Found.TheVariants.{Alias, Column, Rowid}
pub use Rattle.sqlite_resolve.specs.declared.scope.Level.{Level}
pub use Rattle.sqlite_resolve.specs.declared.state.Carried.{Carried}
pub use Rattle.sqlite_schema.specs.Rules.{Keeps, index_reals, table_reals}
pub use Rattle.sqlite_schema.specs.declared.command.Returning.{Returning}
pub use Rattle.sqlite_schema.specs.declared.program.Program.{Program}
pub use Rattle.sqlite_schema.specs.declared.schema.Index.{Index}
unfoldable pub use Rattle.sqlite_tied.specs.Compute.{everything}
unfoldable pub use Rattle.sqlite_trees.specs.Sound.{begins, fits_kind, is_free_name}
pub use Rattle.sqlite_trees.specs.Tree.{IsAscending, with_tree}
pub use Rattle.sqlite_typing.specs.Types.{accepts_program, accepts_terms}
pub use Rattle.sqlite_value.proofs.OrderLemmas.{then-Equal, value_cmp-Int}
pub use Rattle.sqlite_value.specs.declared.keys.Collation.TheVariants.{Binary}
pub use Rattle.sqlite_value.specs.declared.keys.Key.{Key}
pub use Rattle.std.proofs.Common.{Bool, Err, IfErr, IfOk, IfSome, IsOk, IsTrue, Less, List, None, Ok, OnOk, Option, Result, Some, [], add-one, ap, append-nil, arith, codes, cond, drop, eqb, false, filter, get_or, if◌then◌else◌, inl, inr, is_lt, is_some, length, map, nat_lt, ne_eqb, negsuc, not, option_map, pos, refl, rules, slice_get, subst, subst₂, suc, sym, take, true, true≢false, zero, ℕ, ℤ, ◌&&◌, ◌++◌, ◌+◌, ◌-◌, ◌<◌, ◌==◌, ◌^◌, ◌||◌, ◌∙◌, ◌∷◌, ◌≡◌, ◌≢◌, ◌≤◌, ◌⊎◌}
pub use Rattle.std.proofs.lemmas.Bool.{and_parts, cases_eq, eq-eqb, eqb-true, false≢true}
pub use Rattle.std.proofs.lemmas.Bool.Decides.{nat_tests}
pub use Rattle.std.proofs.lemmas.Int.{ints}
pub use Rattle.std.proofs.lemmas.List.{drop-map}
pub use Rattle.std.proofs.lemmas.List.Elements.{All-from_recursion, recursion_from_All}
pub use Rattle.std.proofs.lemmas.List.Sorted.{All-permutation, IsPermutation-append_left, IsPermutation-cons, IsPermutation-map, IsPermutation-middle, IsPermutation-refl, IsPermutation-sym, IsPermutation-trans, list_any-IsPermutation}
pub use Rattle.std.specs.Cmp.Lexicographic.{bytes_decides}
pub use Rattle.std.specs.List.{AllByRecursion, list_any}
pub use Rattle.std.specs.List.Sorted.{IsPermutation, IsSorted}
pub use Rattle.std.specs.Option.{option_and_then, option_copied, option_map_or}
pub use Rattle.std.specs.Prelude.{unwrap_or, ⊤}
pub use Rattle.std.specs.Str.{IsUtf8, bytes_eq}
unfoldable pub use Rattle.std.specs.Str.{chars, is_utf8}
pub use Rattle.version_nodes.specs.Nodes.{IsNode, Node, node, same_node}
pub use Rattle.version_nodes.specs.Trees.{Ancestry, IsForest, has_node}
pub use Rattle.version_nodes.specs.declared.statuses.MarkKind.TheVariants.{Fixed, Found}
