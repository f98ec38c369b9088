pub mod ChangeLemmas
pub mod ListLemmas
pub mod TableLemmas
pub mod CandidateLemmas
