-- what contracts rest on, each file over those before it
pub mod Declarations
pub mod Telescopes
pub mod Scope
pub mod Step
pub mod Conversion
pub mod Typing
pub mod Budget
pub mod Contraction
pub mod Sequence
pub mod Inference
pub mod Laws
pub mod EnvironmentLaws
pub mod MovedLaws
pub mod TypingLaws
pub mod Examples
