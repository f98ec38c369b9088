pub mod SinceLemmas
mod AddLemmas
mod CountLemmas
mod NameLemmas
