-- What the public contract rests on.
pub mod Letters
pub mod Words
pub mod Text
pub mod Places
-- What the crate's own functions promise each other.
pub mod Machine
pub mod Views
