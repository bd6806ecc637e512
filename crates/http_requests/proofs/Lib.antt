pub mod WrittenLemmas
pub mod RequestLemmas
pub mod TakenLemmas
mod MemoryLemmas
