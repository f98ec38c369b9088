-- what public contracts rest on
pub mod Answers
pub mod Kinds
pub mod Spines
-- what the crate's own functions promise each other
pub mod Frames
pub mod Counted
pub mod Stack
pub mod Rules
pub mod Walks
pub mod Progress
