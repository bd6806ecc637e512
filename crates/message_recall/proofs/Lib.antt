pub mod ToldLemmas
pub mod RecallLemmas
