-- what contracts rest on
pub mod Records
