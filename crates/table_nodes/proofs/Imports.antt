-- The names that this crate's proofs cite, passed on from one place.
-- It declares nothing.
pub use Rattle.table_nodes.specs.Links.{AreLinksOf, IsLink, link_row}
pub use Rattle.table_nodes.specs.Rows.{AreMessageRows, AreOutcomeRows, HasUtf8, IsToldOutcome, message_row, outcome_row}
