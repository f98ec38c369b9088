pub mod Neither
pub mod Variables
pub mod LiftLaws
pub mod SubstLaws
pub mod Closed
pub mod Sizes
