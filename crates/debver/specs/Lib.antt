pub mod Characters
pub mod Kept
pub mod Parts
pub mod Cut
pub mod Faults
pub mod Names
pub mod Keys
pub mod Versions
-- definitions that only private functions cite
pub mod Walk
