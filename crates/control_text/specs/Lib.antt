pub use Rattle.base_words.specs.Words
pub use Rattle.base_words.specs.Numbers
pub use Rattle.base_words.specs.Bugs
pub use Rattle.control_grammar.specs.CommandWords
pub use Rattle.control_grammar.specs.Versions
pub use Rattle.control_grammar.specs.Commands
pub use Rattle.control_parser.specs.Reads
pub use Rattle.control_grammar.specs.Lines
pub use Rattle.control_grammar.specs.WellFormed
pub mod Spelling
pub mod Tokens
pub mod BugPlaces
pub mod WordLines
-- definitions that only private functions cite
pub mod Spaces
pub mod Writer
pub mod Unset
