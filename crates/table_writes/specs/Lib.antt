pub mod Needs
-- definitions that only private functions cite
pub mod Plans
pub mod Marked
pub mod Steps
pub mod Lines
