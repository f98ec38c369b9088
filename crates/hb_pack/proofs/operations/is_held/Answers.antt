use Rattle.std.proofs.Common.{sym, arith}
use Rattle.std.proofs.Math.ListN.{length-map}
use Rattle.hb_sets.specs.Set.{Set, contains, empty}
use Rattle.hb_hier.specs.Hierarchy.{Grouped, sets}
use Rattle.hb_pack.proofs.LookLemmas.{any_none}
use Rattle.hb_pack.proofs.operations.is_held.Goals as goal

pub returns : goal.returns
returns c =
    sym
    (any_none (λ (x : Set). contains x c.args.m) (sets c.args.hier.now) empty
    (λ i lt. c.loop-s.invariant i (omega (arith, lt, length-map c.args.hier.now.structures (λ (g : Grouped). g.mixins), c.structures-s-end.ensures.count))))
