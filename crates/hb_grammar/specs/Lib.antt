-- The grammar.
pub mod Leaf
pub mod Part
pub mod Grammar
pub mod Places
-- The reader, token by token.
pub mod Machine
pub mod Run
