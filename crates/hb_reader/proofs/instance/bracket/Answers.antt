use Rattle.std.proofs.Common.{refl}
use Rattle.hb_reader.proofs.MeasureLemmas.{bracketed_leaf_else}
use Rattle.hb_reader.proofs.instance.bracket.Goals as goal

pub returns-in_default : goal.returns-in_default
returns-in_default c = λ w.
    rw (bracketed_leaf_else c.args.mark w c.args.applied c.in_default.not-Open, c.flat-in_default.ensures) (refl, refl)
