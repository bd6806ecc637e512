pub mod WrittenLemmas
pub mod ServerLemmas
pub mod UntouchedLemmas
pub mod RefusalLemmas
pub mod LeftLemmas
pub mod JobLemmas
pub mod LeavingLemmas
