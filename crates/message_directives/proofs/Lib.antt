pub mod QuestionLemmas
pub mod BranchLemmas
pub mod ListedLemmas
pub mod ReportLemmas
