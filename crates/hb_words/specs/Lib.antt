pub mod Asked
pub mod Commands
pub mod Jobs
pub mod Numbers
pub mod Rows
