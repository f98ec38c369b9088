pub mod Sections
pub mod Refusing
