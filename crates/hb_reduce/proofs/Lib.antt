pub mod Plugs
pub mod KindLemmas
pub mod StackLemmas
pub mod SpineLemmas
pub mod EnvLemmas
pub mod FieldLemmas
pub mod ProgressLemmas
pub mod ScopeLemmas
