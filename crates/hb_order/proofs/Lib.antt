pub mod HeirLemmas
pub mod AllowedLemmas
pub mod GivingLemmas
pub mod NeedLemmas
