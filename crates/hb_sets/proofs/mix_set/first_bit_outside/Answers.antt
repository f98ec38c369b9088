use Rattle.std.proofs.Common.{arith}
use Rattle.hb_sets.proofs.BitLemmas.{outside_none, outside_first}
use Rattle.hb_sets.proofs.mix_set.first_bit_outside.Goals as goal

pub returns-then-left-eq0-clause-none : goal.returns-then-left-eq0-clause-none
returns-then-left-eq0-clause-none c = λ _. outside_none c.args.a c.args.b c.ranges.b.fits c.if-left-eq0.true

pub returns-else-left-eq0-clause-first : goal.returns-else-left-eq0-clause-first
returns-else-left-eq0-clause-first c = outside_first c.args.a c.args.b c.ranges.a.fits c.ranges.b.fits (omega (arith, c.if-left-eq0.false))
