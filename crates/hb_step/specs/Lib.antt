-- what public contracts rest on
pub mod Reserved
pub mod Naming
pub mod Closing
pub mod Kernel
pub mod Elaborating
pub mod Adding
pub mod Counting
pub mod Marks
