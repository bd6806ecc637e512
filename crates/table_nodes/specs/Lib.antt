pub mod Grown
pub mod Missing
pub mod FirstMarks
-- definitions that only private functions cite
pub mod Links
pub mod Rows
