use Rattle.std.proofs.Common.{sym, ◌∙◌}
use Rattle.hb_howto.proofs.WayLemmas.{way-three}
use Rattle.hb_howto.proofs.search.Search.is_way_of_three.Goals as goal
use Rattle.hb_howto.proofs.search.Search.is_way_of_three.Goals.{then-are_different, else-are_different}

pub returns-then-fills_three : goal.returns-then-fills_three
returns-then-fills_three c = λ yes_.
    elim c.if-are_different.branch [
      | then-are_different w ↦ way-three _ _ _ c.args.a.now c.args.b.now c.args.c.now c.requires.missing c.requires.first c.requires.second c.requires.third
          (c.are_different.ensures w.if-are_different.true)
          (cc (w.fills_three.ensures, w.value-is, c.if-fills_three.true))
          (sym c.is_least_of_three.ensures ∙ yes_)
      | else-are_different w ↦ absurd (cc)
    ]
