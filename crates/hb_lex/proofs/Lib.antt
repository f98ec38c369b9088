pub mod Grown
pub mod Comments
pub mod Sound
pub mod Complete
pub mod Live
pub mod Way
