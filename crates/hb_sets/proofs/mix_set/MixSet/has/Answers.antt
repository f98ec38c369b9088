use Rattle.hb_sets.proofs.WordLemmas.{has_bit_below, has_none_above}
use Rattle.hb_sets.proofs.mix_set.MixSet.has.Goals as goal

pub returns-then-n-lt1024-clause-member : goal.returns-then-n-lt1024-clause-member
returns-then-n-lt1024-clause-member c =
    rw (← c.self.view_is) (has_bit_below c.self.inside.words c.args.n c.from.result c.from.ensures c.if-n-lt1024.true)

pub returns-else-n-lt1024-clause-member : goal.returns-else-n-lt1024-clause-member
returns-else-n-lt1024-clause-member c =
    rw (← c.self.view_is) (has_none_above c.self.inside.words c.args.n c.if-n-lt1024.false)
