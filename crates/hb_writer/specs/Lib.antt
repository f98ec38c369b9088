-- what public contracts rest on
pub mod Text
pub mod Entries
-- what the crate's own functions promise each other
pub mod Pieces
