pub mod Refusals
pub mod Alike
-- definitions that only private functions and fields cite
pub mod Index
pub mod Changes
pub mod Kept
pub mod Parted
pub mod Numbers
