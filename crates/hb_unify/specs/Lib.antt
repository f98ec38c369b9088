-- what public contracts rest on
pub mod Plain
pub mod Problems
-- what the crate's own functions promise each other
pub mod Settled
