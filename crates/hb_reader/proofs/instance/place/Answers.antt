use Rattle.std.proofs.Common.{refl}
use Rattle.hb_reader.proofs.MeasureLemmas.{place_leaf_else}
use Rattle.hb_reader.proofs.instance.place.Goals as goal

pub returns-in_default : goal.returns-in_default
returns-in_default c = λ w.
    rw (place_leaf_else c.args.args.now.items c.args.mark w c.in_default.not-Ident, c.flat-in_default.ensures) (refl, refl)
