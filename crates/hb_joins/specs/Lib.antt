-- What public contracts rest on.
pub mod Holding
-- What the crate's own functions keep.
pub mod Changes
pub mod Lists
pub mod Table
pub mod Pairs
pub mod Kept
