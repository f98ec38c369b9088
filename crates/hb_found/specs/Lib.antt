-- what public contracts rest on
pub mod Plain
-- what the crate's own functions promise each other
pub mod Frames
