pub use Rattle.bug_record.specs.Rows
pub mod Texts
pub mod Answers
pub mod Lists
pub mod Pages
