use Rattle.std.proofs.Common.{arith}
use Rattle.hb_sets.proofs.WordLemmas.{members-cut}
use Rattle.hb_sets.proofs.mix_set.MixSet.minus.Goals as goal

pub returns : goal.returns
returns c =
    rw (← c.self.view_is, ← c.other.view_is)
    (members-cut c.self.inside.words c.other.inside.words c.loop-i.words (λ k lt. c.loop-i.invariant.1 k (omega (arith, lt, c.loop-i-test.false))))
