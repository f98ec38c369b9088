pub mod LookLemmas
pub mod MakerLemmas
