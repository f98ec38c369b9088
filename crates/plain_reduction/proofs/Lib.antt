pub mod StageLemmas
pub mod EtaLemmas
