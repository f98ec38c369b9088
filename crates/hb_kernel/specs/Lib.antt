-- what public contracts rest on
pub mod Scoping
pub mod Places
pub mod Answers
-- what the crate's own functions promise each other
pub mod Contexts
pub mod Faults
pub mod Asks
pub mod Applied
pub mod Known
pub mod Sizes
pub mod Levels
