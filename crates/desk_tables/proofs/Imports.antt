-- The names that this crate's proofs cite, passed on from one place.
-- It declares nothing.
pub use Rattle.table_nodes.specs.Grown.{IsGrown, changed_of}
pub use Rattle.table_history.specs.Making.{IsDeskOf}
pub use Rattle.store_contract.specs.Crashes.{Holding}
pub use Rattle.store_contract.specs.Store.{Answers, AreWaitingOn, Branches, IsRefusal, Keeps, MayBeKept, with_change}
pub use Rattle.desk_tables.specs.Desk.{HasKeptTables, LeavesTables, content_shown, remembered, state_of}
pub use Rattle.desk_tables.specs.Files.{HoldCopy, HoldDesk, IsFoundIn, LeaveDesk}
pub use Rattle.desk_tables.specs.Kept.{AreKnown, AreRemembered, IsKept, IsNextIn, Remembered, desk_seen, keeping_seen, next_after}
unfoldable pub use Rattle.desk_tables.specs.Kept.{content_seen}
pub use Rattle.table_opening.specs.Opening.{IsLeft, IsReason, unlimited}
pub use Rattle.desk_tables.specs.Crashes.{AreTablesAfter, AreTablesHolding, LeavesOf}
pub use Rattle.table_opening.specs.Shown.{AreTablesOf, HasContent, HasContentUnder, HoldTables, HoldsContent, IsDesk}
pub use Rattle.table_opening.specs.Still.{IsAsBefore, StillShows}
pub use Rattle.desk_tables.specs.Transactions.{AsksInside, IsAsked, IsChanged, IsTaken}
pub use Rattle.table_opening.specs.Transactions.{Ends, IsDone, IsFound}
pub use Rattle.table_opening.specs.declared.open_fault.OpenFault.TheVariants.{NewerSchema, NotADesk, NotEmpty, Store}
pub use Rattle.table_writes.specs.Needs.{HasTree, HasTreeIfAny, IsKnownIn, IsNextPlace, IsPlaceIn}
