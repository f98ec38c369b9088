-- what public contracts rest on
pub mod Places
pub mod Format
