pub mod PlaceLemmas
pub mod PassingLemmas
pub mod RowLemmas
pub mod AfterLemmas
pub mod FreshLemmas
pub mod NamedLemmas
