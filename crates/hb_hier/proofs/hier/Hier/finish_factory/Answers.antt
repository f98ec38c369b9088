use Rattle.std.proofs.Common.{arith, sym, ◌∙◌, subst, ◌<◌, length, ◌≡◌, false}
use Rattle.std.proofs.lemmas.Result.{err_from_is_err_and}
use Rattle.hb_hier.specs.Hierarchy.{Hierarchy, ended}
use Rattle.hb_hier.proofs.EndingLemmas.{distinct-after}
use Rattle.hb_hier.proofs.hier.Hier.finish_factory.Goals as goal

pub returns-then-ended-clause-refused : goal.returns-then-ended-clause-refused
returns-then-ended-clause-refused c = (sym c.ended.ensures ∙ c.if-ended.true, c.factory_name.ensures)

pub returns-in_err-push-clause-refused : goal.returns-in_err-push-clause-refused
returns-in_err-push-clause-refused c =
    let p = err_from_is_err_and c.from_residual.result c.from_residual.ensures.1 in
    rw (p.1, p.2) tt

pub invariant_of-self-2 : goal.invariant_of-self-2
invariant_of-self-2 c =
    let old = c.self.invariant in
    let view = c.self.view_is in
    record {
      few_mixins = old.few_mixins;
      few_factories = old.few_factories;
      few_structures = old.few_structures;
      joined = old.joined;
      asked = old.asked;
      ordered = old.ordered;
      ended_once = distinct-after c.self.inside.endings.items _ _ c.in_ok-push.ensures.items old.ended_once
          (omega (arith, subst (λ (h : Hierarchy). c.args.f.0 < length h.factories) (sym view) c.requires, old.few_factories))
          (subst (λ (h : Hierarchy). ended h.endings c.args.f.0 ≡ false) (sym view) (sym c.ended.ensures ∙ c.if-ended.false));
    }
