pub mod YesLemmas
