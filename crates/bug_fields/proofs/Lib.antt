pub mod BlockerLemmas
pub mod NodeLemmas
pub mod FieldLemmas
pub mod MemberLemmas
pub mod SoundLemmas
pub mod AddedLemmas
pub mod ReportLemmas
pub mod GatheredLemmas
