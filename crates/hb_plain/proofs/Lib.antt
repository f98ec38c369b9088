mod ClosingLemmas
mod LoadingLemmas
mod RefusalLemmas
