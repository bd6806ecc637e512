mod KeptLemmas
pub mod NumberLemmas
pub mod OrderedLemmas
pub mod OrderedSetLemmas
pub mod PlaceLemmas
pub mod SetLemmas
