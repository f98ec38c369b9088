-- what public contracts rest on
pub mod Entries
pub mod Growing
pub mod Reporting
pub mod Source
pub mod State
pub mod Taking
