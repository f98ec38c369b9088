-- what public contracts rest on
pub mod Agenda
pub mod Difference
pub mod Exit
pub mod Joins
pub mod Report
pub mod Reported
pub mod Stays
pub mod Stops
pub mod Trace
-- what the crate's own functions promise each other
pub mod Stack
