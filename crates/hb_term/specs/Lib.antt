-- what public contracts rest on
pub mod Meaning
pub mod Counts
pub mod Fits
pub mod Shown
