mod MakeLemmas
mod GrowLemmas
