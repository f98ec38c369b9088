-- what public contracts rest on
pub mod Marks
pub mod Signs
pub mod Answers
pub mod Uses
-- what the crate's own functions promise each other
pub mod Numbers
pub mod Turns
