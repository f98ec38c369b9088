pub mod KeptLemmas
pub mod ListLemmas
pub mod NameLemmas
pub mod RoleLemmas
pub mod TableLemmas
