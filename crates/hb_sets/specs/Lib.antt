-- What the public contracts rest on.
pub mod Set
-- How the words of a set stand for its members.
pub mod Words
