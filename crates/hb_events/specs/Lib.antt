-- what public contracts rest on
pub mod Listing
pub mod Events
