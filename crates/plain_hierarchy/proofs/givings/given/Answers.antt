use Rattle.std.proofs.Common.{sym, ◌∙◌, ap, cond, get_or, arith}
use Rattle.hb_sets.specs.Set.{union}
use Rattle.hb_givings.specs.Givings.{ungiven}
use Rattle.hb_givings.specs.Givings.{same_const}
use Rattle.plain_hierarchy.proofs.GivenLemmas.{given-next, given-all}
use Rattle.plain_hierarchy.proofs.givings.given.Goals as goal

pub loop-at-preserved : goal.loop-at-preserved
loop-at-preserved c =
    c.given_and-all.ensures
    ∙ ap (λ s. cond (same_const (get_or c.args.givings.now c.loop-at.at ungiven).carrier c.args.carrier) (union s (get_or c.args.givings.now c.loop-at.at ungiven).giving.gives) s) c.loop-at.invariant
    ∙ sym (given-next c.args.givings.now c.args.carrier c.loop-at.at (omega arith))

pub returns : goal.returns
returns c = c.loop-at.invariant ∙ given-all c.args.givings.now c.args.carrier c.loop-at.at (omega arith)
