pub mod Endings
pub mod InFile
pub mod Left
pub mod Refusals
pub mod Jobs
pub mod Program
-- definitions that only private functions cite
pub mod CauseText
