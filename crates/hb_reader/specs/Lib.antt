-- What the reader's values stand for.
pub mod Views
pub mod Signs
pub mod Frames
pub mod Stacks
-- Rows of known tokens.
pub mod Rows
pub mod States
-- Parts of the reader's steps at arguments.
pub mod Arguments
-- What the code counts.
pub mod Measures
-- Which numbers of a token's names a step reads.
pub mod Needs
