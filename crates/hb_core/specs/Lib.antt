-- what the public contract rests on
pub mod Places
pub mod Names
-- what the crate's own functions promise each other
pub mod Levels
