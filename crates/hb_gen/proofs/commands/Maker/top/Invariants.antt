use Rattle.hb_gen.specs.Names.{Extends}
use Rattle.hb_gen.proofs.commands.Maker.top.Given as goal

abbrev pub invariant-loop-number : goal.invariant-loop-number
invariant-loop-number l = Extends l.fn.names l.names
