pub mod FilledLemmas
