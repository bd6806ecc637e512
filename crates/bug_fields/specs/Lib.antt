pub mod Fields
pub mod Members
pub mod Gathered
-- definitions that only private functions cite
pub mod Parts
pub mod Reports
