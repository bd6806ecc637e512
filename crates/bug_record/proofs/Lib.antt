pub mod EqualLemmas
pub mod MarkLemmas
pub mod MergeLemmas
pub mod NewBugLemmas
pub mod PackageLemmas
pub mod RefusalLemmas
pub mod SoundProp
pub mod TagLemmas
