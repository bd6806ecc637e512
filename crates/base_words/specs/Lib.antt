pub mod Blanks
pub mod AnyCase
pub mod Words
pub mod Numbers
pub mod Bugs
pub mod Ids
pub mod Texts
