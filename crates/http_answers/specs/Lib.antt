pub mod Answers
pub mod Faults
pub mod Stored
pub mod Repeats
pub mod Cases
pub mod Crashes
