pub mod PlaceLemmas
pub mod StructureLemmas
pub mod FaultLemmas
pub mod GivenLemmas
pub mod NeedLemmas
pub mod EndingLemmas
pub mod UndoLemmas
pub mod GrewLemmas
