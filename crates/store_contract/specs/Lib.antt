pub use Rattle.base_words.specs.Ids
pub mod Message
pub mod Kept
pub mod Crashes
pub mod Store
pub mod Tried
pub mod Known
pub mod Telling
pub mod Taken
pub mod Progress
-- definitions that only private functions cite
pub mod Twice
