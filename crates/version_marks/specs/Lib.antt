pub mod Nearest
-- definitions that only private functions and fields cite
pub mod Children
pub mod Walks
