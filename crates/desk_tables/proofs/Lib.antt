pub mod TransactionLemmas
pub mod KeptLemmas
pub mod OpeningLemmas
pub mod BranchLemmas
pub mod CrashLemmas
pub mod KeepLemmas
pub mod FileLemmas
pub mod Imports
