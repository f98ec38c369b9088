use Rattle.std.proofs.Common.{ℕ, ◌<◌}
use Rattle.hb_sets.specs.Set.{In}
use Rattle.hb_sets.proofs.WordLemmas.{member_bit}
use Rattle.hb_sets.proofs.mix_set.MixSet.members_are_small.Goals as goal

pub returns : goal.returns
returns c = rw (← c.self.view_is) (λ q member. (member_bit c.self.inside.words q member).0)
