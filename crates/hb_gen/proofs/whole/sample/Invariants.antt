use Rattle.hb_gen.specs.Names.{Extends}
use Rattle.hb_gen.proofs.whole.sample.Given as goal

abbrev pub invariant-loop-i : goal.invariant-loop-i
invariant-loop-i l = Extends l.fn.names l.names

abbrev pub invariant-loop-i-2 : goal.invariant-loop-i-2
invariant-loop-i-2 l = Extends l.fn.names l.names

abbrev pub invariant-loop-i-3 : goal.invariant-loop-i-3
invariant-loop-i-3 l = Extends l.fn.names l.names
