pub mod ForestProp
pub mod NodeLemmas
pub mod ReadLemmas
