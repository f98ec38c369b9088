use Rattle.plain_hierarchy.specs.Scans.{NoneMissing}
use Rattle.plain_hierarchy.proofs.allowed.first_missing.Given as goal

abbrev pub invariant-loop-at : goal.invariant-loop-at
invariant-loop-at l = NoneMissing l.structures l.set l.at
