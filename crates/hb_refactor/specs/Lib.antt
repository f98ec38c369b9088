-- what the public contract rests on
pub mod Keeping
-- what the crate's own functions promise each other
pub mod Sides
