pub mod WrittenLemmas
pub mod GatherLemmas
pub mod PlanInputLemmas
