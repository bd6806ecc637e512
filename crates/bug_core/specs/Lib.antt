pub mod Refused
-- definitions that only private functions cite
pub mod Planned
pub mod Others
pub mod Named
pub mod Agreements
pub mod Joins
pub mod Merged
pub mod Clones
