-- what contracts rest on
pub mod Tree
pub mod Code
pub mod Laws
