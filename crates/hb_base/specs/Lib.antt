-- what contracts rest on
pub mod Names
