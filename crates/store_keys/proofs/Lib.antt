pub mod ImageLemmas
pub mod KeyLemmas
pub mod ListLemmas
