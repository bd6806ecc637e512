pub mod Ends
pub mod Once
pub mod Crashes
-- definitions that only private functions cite
pub mod Commands
pub mod Taking
pub mod GoingOn
