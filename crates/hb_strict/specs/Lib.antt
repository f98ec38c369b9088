-- what public contracts rest on
pub mod Strict
-- what the crate's own functions promise each other
pub mod Tables
