pub mod OpenLemmas
pub mod CrashLemmas
pub mod StartLemmas
pub mod CloseLemmas
pub mod ScriptLemmas
