pub mod WordLemmas
pub mod Boundaries
pub mod NumberLemmas
pub mod LawLemmas
