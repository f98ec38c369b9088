use Rattle.std.proofs.Common.{◌≡◌, take, drop}
use Rattle.hb_unify.proofs.fields.from.Given as goal

abbrev pub invariant-loop-t : goal.invariant-loop-t
invariant-loop-t l = l.out.items ≡ take l.t-index (drop l.start l.terms)
