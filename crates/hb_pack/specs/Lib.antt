pub mod Packing
pub mod Roles
