mod KeyLemmas
pub mod FrameLemmas
