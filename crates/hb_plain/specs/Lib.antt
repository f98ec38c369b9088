-- what public contracts rest on
pub mod Declaring
pub mod Queries
pub mod Refusing
pub mod Sections
pub mod Loading
