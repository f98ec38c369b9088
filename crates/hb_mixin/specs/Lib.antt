-- what public contracts rest on
pub mod Declaring
pub mod Naming
pub mod Refusing
-- what the crate's own functions promise each other
pub mod Adding
pub mod Fields
pub mod Heads
pub mod Steps
