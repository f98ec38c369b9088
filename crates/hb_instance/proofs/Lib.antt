pub mod GrowLemmas
pub mod GiveLemmas
