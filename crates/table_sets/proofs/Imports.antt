-- The names that this crate's proofs cite, passed on from one place.
-- It declares nothing.
pub use Rattle.table_sets.specs.Fields.{AreFieldsOf, field_row, field_rows}
pub use Rattle.table_sets.specs.KindAnswers.{kind_row, kind_rows}
pub use Rattle.table_sets.specs.Listed.{AreSetsOf, is_of, row_fields}
pub use Rattle.table_sets.specs.MarkAnswers.{mark_row}
pub use Rattle.table_sets.specs.Marked.{AreMarksOf, IsMark, Mark, all_marked, no_marks, with_marked}
pub use Rattle.table_sets.specs.Members.{AreMemberRows, HasUtf8, member_row}
pub use Rattle.table_sets.specs.Names.{AreNamesOf, text_row}
pub use Rattle.table_sets.specs.SetAnswers.{listed_row}
pub use Rattle.table_sets.specs.declared.listed.ListedSet.{ListedSet}
pub use Rattle.table_sets.specs.declared.node_marks.SetMark.{SetMark}
