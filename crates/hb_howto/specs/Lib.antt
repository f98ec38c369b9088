-- What public contracts rest on.
pub mod Filling
pub mod Ways
-- What the crate's own functions promise each other.
pub mod Tried
