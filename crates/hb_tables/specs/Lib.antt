-- What public contracts rest on.
pub mod Maps
pub mod Carriers
pub mod Growing
-- What the crate's own functions keep.
pub mod Kept
