pub mod AllowedLemmas
pub mod GivenLemmas
pub mod NeedLemmas
