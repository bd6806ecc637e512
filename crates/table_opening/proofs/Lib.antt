pub mod StillLemmas
pub mod TransactionLemmas
pub mod NameLemmas
pub mod HeldLemmas
pub mod OpeningLemmas
pub mod Imports
