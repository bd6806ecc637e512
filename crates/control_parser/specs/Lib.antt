pub mod Reads
-- definitions that only private functions cite
pub mod Growing
