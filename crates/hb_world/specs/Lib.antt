pub mod Worlds
pub mod Taking
