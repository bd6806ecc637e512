pub mod Encodings
pub mod Outcomes
