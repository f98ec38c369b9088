pub mod CandidateLemmas
pub mod PartLemmas
pub mod WayLemmas
