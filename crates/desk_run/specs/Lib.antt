pub use Rattle.message_directives.specs.Branches
pub use Rattle.message_directives.specs.Transcripts
pub use Rattle.message_directives.specs.Reports
pub use Rattle.message_receiving.specs.Once
pub mod Script
pub mod Running
pub mod Tried
pub mod Calls
-- definitions that only private functions cite
pub mod Directives
pub mod Gathering
pub mod RefusedAndFailed
pub mod Carrying
pub mod Stopping
pub mod Writing
pub mod Grown
