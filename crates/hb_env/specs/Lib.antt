-- what public contracts rest on
pub mod Plain
pub mod Coded
pub mod Naming
pub mod Environment
pub mod Answers
-- what the crate's own functions promise each other
pub mod Table
