mod TakeLemmas
