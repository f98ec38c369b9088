use Rattle.std.proofs.Common.{arith}
use Rattle.hb_sets.proofs.WordLemmas.{first_outside_at, Inside-words}
use Rattle.hb_sets.proofs.mix_set.MixSet.first_outside.Goals as goal

pub returns-in-Some-clause-first : goal.returns-in-Some-clause-first
returns-in-Some-clause-first c =
    rw (← c.self.view_is, ← c.other.view_is)
    (first_outside_at c.self.inside.words c.other.inside.words c.loop-i.i c.in-Some.bit c.from-at.result c.from-at.ensures c.loop-i-test.true c.loop-i.invariant c.in-Some.ensures.first)

pub returns-clause-none : goal.returns-clause-none
returns-clause-none c = λ _.
    rw (← c.self.view_is, ← c.other.view_is)
    (Inside-words c.self.inside.words c.other.inside.words (λ k lt. c.loop-i.invariant k (omega (arith, lt, c.loop-i-test.false))))
