pub use Rattle.version_nodes.specs.Nodes
pub use Rattle.version_nodes.specs.NodeLaws
pub use Rattle.version_nodes.specs.Trees
pub use Rattle.version_nodes.specs.Branches
pub use Rattle.version_nodes.specs.Statuses
pub mod Links
-- definitions that only private functions and fields cite
pub mod Changes
pub mod Kept
pub mod Heights
pub mod Whole
pub mod Slots
