pub mod Appends
pub mod PageLemmas
