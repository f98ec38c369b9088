-- what public contracts rest on
pub mod Causes
pub mod Memory
pub mod MemorySink
pub mod Told
pub mod Whole
