pub mod Crashes
pub mod Kept
pub mod Desk
pub mod Files
-- definitions that only private functions cite
pub mod Changing
pub mod Transactions
