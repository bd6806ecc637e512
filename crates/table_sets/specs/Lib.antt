pub mod Waiting
pub mod Affecting
pub mod MarkedAt
pub mod Listed
-- definitions that only private functions cite
pub mod Members
pub mod Marked
pub mod Fields
pub mod Names
pub mod MarkAnswers
pub mod KindAnswers
pub mod SetAnswers
