-- what public contracts rest on
pub mod Clashes
pub mod Levels
