pub mod Cut
pub mod Options
pub mod Numbers
pub mod Jobs
pub mod Message
-- definitions that only private functions cite
pub mod Told
