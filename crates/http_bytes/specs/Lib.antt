pub mod Head
pub mod Found
pub mod Headers
pub mod Body
-- definitions that only private functions cite
pub mod Pieces
pub mod Shown
