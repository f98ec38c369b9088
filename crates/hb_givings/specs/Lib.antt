-- What public contracts rest on.
pub mod Givings
-- What the crate's own functions keep and promise each other.
pub mod Lookups
pub mod Kept
