pub mod GrowthLemmas
pub mod ActLemmas
