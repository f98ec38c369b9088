-- what the crate's own functions promise each other
pub mod Ways
