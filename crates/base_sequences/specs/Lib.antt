pub mod Sets
pub mod Ordered
pub mod Kept
-- definitions that only private functions cite
pub mod Places
