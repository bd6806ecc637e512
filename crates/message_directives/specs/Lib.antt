pub mod Questions
pub mod Readable
pub mod Branches
pub mod Transcripts
pub mod Reports
-- definitions that only private functions cite
pub mod BranchWords
pub mod ReportWords
