-- The names that this crate's proofs cite, passed on from one place.
-- It declares nothing.
pub use Rattle.table_history.specs.Making.{AreUnder, Builds, IsBlank, IsDeskOf, IsUnder}
pub use Rattle.table_history.specs.Number.{ReadsSchema, Says}
pub use Rattle.table_opening.specs.Idle.{IsIdle}
pub use Rattle.table_opening.specs.Opening.{IsFailureOf, IsLeft, IsStoreFailure, SaysEarlier}
pub use Rattle.table_opening.specs.Shown.{AreTablesOf, AreTablesUnder, HasContent, HasContentUnder, HoldTables, HoldsContent, IsDesk}
pub use Rattle.table_opening.specs.Still.{IsAsBefore, StillShows}
pub use Rattle.table_opening.specs.Transactions.{AsksSchema, Ends, IsCarried, IsCommitFault, IsDone, IsFound, IsMade, IsRecognised}
pub use Rattle.table_opening.specs.declared.open_fault.OpenFault.TheVariants.{NewerSchema, NotADesk, Store}
