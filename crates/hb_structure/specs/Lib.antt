pub mod Grouping
pub mod Making
pub mod Refusing
