use Rattle.std.proofs.Common.{◌∙◌, sym, ap, subst}
use Rattle.hb_sets.specs.Set.{Set}
use Rattle.hb_order.specs.Needs.{Takes}
use Rattle.hb_givings.specs.Givings.{givings_at}
use Rattle.hb_hier.specs.Hierarchy.{sets}
use Rattle.hb_generated.specs.Reading.{takes_of}
use Rattle.hb_pack.proofs.CoercionLemmas.{mix_at}
use Rattle.hb_pack.proofs.TakenLemmas.{takes_same}
use Rattle.hb_pack.proofs.need.takes.Goals as goal

pub returns-clause-value : goal.returns-clause-value
returns-clause-value c =
    let h = sets c.args.hier.now in
    let gs = givings_at c.args.hier.now.givings c.args.carrier in
    sym
    (ap (takes_of h gs) (sym (c.mix-set.ensures ∙ mix_at c.args.hier.now c.args.t.0 c.requires))
    ∙ takes_same h gs c.structures_are_allowed.ensures c.asked_are_declared.ensures c.mix-set.result.now c.members_are_small.ensures c.takes.result c.takes.ensures.0 c.takes.ensures.1)

pub returns-clause-takes : goal.returns-clause-takes
returns-clause-takes c is =
    subst (λ (x : Set). Takes (sets c.args.hier.now) (givings_at c.args.hier.now.givings c.args.carrier) x) c.mix-set.ensures (c.takes.ensures.0 is)
