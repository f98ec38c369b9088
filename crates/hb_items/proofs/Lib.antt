pub mod ItemLemmas
pub mod CompareLemmas
