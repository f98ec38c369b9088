use Rattle.trial_reduction.proofs.terms.+pairs.Given as goal

abbrev pub decreases-pairs : goal.decreases-pairs
decreases-pairs l = l.levels
