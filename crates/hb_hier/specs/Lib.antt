-- What public contracts rest on.
pub mod Hierarchy
pub mod Declaring
pub mod Giving
pub mod Undoing
-- What the crate's own functions keep.
pub mod Keeping
pub mod Kept
pub mod Least
