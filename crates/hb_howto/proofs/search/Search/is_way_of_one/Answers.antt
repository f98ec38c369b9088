use Rattle.std.proofs.Common.{sym, ◌∙◌}
use Rattle.hb_howto.proofs.WayLemmas.{way-one}
use Rattle.hb_howto.proofs.search.Search.is_way_of_one.Goals as goal

pub returns : goal.returns
returns c = λ yes_. way-one _ _ _ c.args.a.now c.requires.missing c.requires.first (sym c.fills_one.ensures ∙ yes_)
