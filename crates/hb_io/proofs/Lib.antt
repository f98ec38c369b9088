pub mod Front
pub mod Sent
