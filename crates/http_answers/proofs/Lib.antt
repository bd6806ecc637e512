pub mod AnswerLemmas
pub mod AskedLemmas
pub mod CrashLemmas
pub mod MessageLemmas
pub mod NodesLemmas
