pub mod BoundLemmas
pub mod EntryLemmas
pub mod PieceLemmas
