pub mod Heirs
pub mod Allowed
pub mod Givings
pub mod Needs
