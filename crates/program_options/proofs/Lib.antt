mod CutLemmas
mod OptionLemmas
mod NumberLemmas
mod JobLemmas
pub mod TextLemmas
mod FeedLemmas
mod PlainLemmas
mod SentLemmas
