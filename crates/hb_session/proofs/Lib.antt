mod GoesLemmas
