pub mod TagLemmas
pub mod OutcomeLemmas
