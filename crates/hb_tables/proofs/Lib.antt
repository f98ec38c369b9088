pub mod GrowLemmas
