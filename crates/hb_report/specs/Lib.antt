-- what public contracts rest on
pub mod Refusals
pub mod Lines
