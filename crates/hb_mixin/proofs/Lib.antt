mod DeclareLemmas
pub mod NamingLemmas
mod RefuseLemmas
mod WrittenLemmas
