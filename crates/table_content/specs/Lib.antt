pub mod Content
pub mod View
pub mod Kept
pub mod Edits
pub mod Free
pub mod Images
pub mod Staying
pub mod Changes
pub mod Branches
pub mod KeptOutcomes
pub mod KindsAtNodes
-- definitions that only private functions cite
pub mod Moving
pub mod Sparing
pub mod EditLists
pub mod BranchLists
pub mod KeptOutcomeLists
