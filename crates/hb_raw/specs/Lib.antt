-- Raw terms and commands as plain data.
pub mod Preterm
pub mod Sentence
-- What the Rust values stand for.
pub mod Views
