pub mod Images
pub mod PlanInputs
pub mod Changes
pub mod Written
