pub mod Parts
pub mod Routes
pub mod Body
pub mod Members
pub mod Shown
pub mod Answers
-- what the router holds, which only a law and private functions cite
pub mod Rows
pub mod Free
pub mod Match
