pub mod CommandWords
pub mod Versions
pub mod Commands
pub mod Lines
pub mod WellFormed
