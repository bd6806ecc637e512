pub mod Kept
pub mod Asked
pub mod FoundSets
pub mod Known
-- definitions that only private functions cite
pub mod Bugs
pub mod Found
pub mod Rows
pub mod Keys
pub mod BugTests
