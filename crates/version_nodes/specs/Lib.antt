pub mod Nodes
pub mod NodeLaws
pub mod Trees
pub mod Branches
pub mod Statuses
pub mod Lowest
