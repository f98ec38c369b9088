use Rattle.std.proofs.Common.{sym}
use Rattle.hb_quick.proofs.MakerLemmas.{full-maker}
use Rattle.hb_quick.proofs.maker.full_maker.Goals as goal

pub returns : goal.returns
returns c = full-maker _ _ _ _ _ c.in_ok-params.ensures.sizes c.if-fields-eq0.false (sym c.if-not-is_built.ensures)
