pub mod CarrierLemmas
pub mod LookupLemmas
pub mod TallyLemmas
