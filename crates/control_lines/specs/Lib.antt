pub mod Lines
pub mod Buffered
pub mod Reading
-- definitions that only private functions cite
pub mod Pieces
