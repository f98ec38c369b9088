use Rattle.hb_sets.proofs.WordLemmas.{members-with_at}
use Rattle.hb_sets.proofs.mix_set.MixSet.with.Goals as goal

pub returns : goal.returns
returns c =
    rw (← c.self.view_is) (members-with_at c.self.inside.words c.args.n c.from.result c.from.ensures c.self.told c.requires)
