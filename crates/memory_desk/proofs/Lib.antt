pub mod PlainLemmas
pub mod KeptMessageLemmas
