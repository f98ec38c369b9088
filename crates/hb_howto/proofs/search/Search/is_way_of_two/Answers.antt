use Rattle.std.proofs.Common.{sym, ◌∙◌}
use Rattle.hb_howto.proofs.WayLemmas.{way-two}
use Rattle.hb_howto.proofs.search.Search.is_way_of_two.Goals as goal
use Rattle.hb_howto.proofs.search.Search.is_way_of_two.Goals.{then-differ, else-differ}

pub returns-then-fills_two : goal.returns-then-fills_two
returns-then-fills_two c = λ yes_.
    elim c.if-differ.branch [
      | then-differ w ↦ way-two _ _ _ c.args.a.now c.args.b.now c.requires.missing c.requires.first c.requires.second
          (c.differ.ensures w.if-differ.true)
          (cc (w.fills_two.ensures, w.value-is, c.if-fills_two.true))
          (sym c.neither_fills.ensures ∙ yes_)
      | else-differ w ↦ absurd (cc)
    ]
