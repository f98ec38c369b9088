pub mod SameLemmas
pub mod RefuseLemmas
