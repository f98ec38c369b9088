use Rattle.std.proofs.Common.{refl, sym, subst, ℕ, ◌∙◌, ap}
use Rattle.hb_sets.specs.Set.{Set}
use Rattle.hb_hier.specs.Hierarchy.{sets}
use Rattle.hb_givings.specs.Givings.{givings_at}
use Rattle.hb_hier.specs.Giving.{AllReady, NewAreMet, provided_or_none, required_or_none}
use Rattle.hb_hier.proofs.hier.Hier.check_giving.Goals as goal

pub returns-clause-allowed : goal.returns-clause-allowed
returns-clause-allowed c = record {
  usable = c.in_ok-k.ensures.usable;
  ready = subst (λ (s : Set). AllReady (sets c.args.self.now) (givings_at c.args.self.now.givings c.args.carrier) c.args.binders.now s)
      (c.req.ensures ∙ ap (required_or_none c.args.self.now) (sym c.in_ok-k.ensures.known)) (c.in_default.ensures.none refl);
  met = subst (λ (s : Set). (n : ℕ) → NewAreMet c.args.self.now (givings_at c.args.self.now.givings c.args.carrier) c.args.binders.now s n)
      (c.prov-gives.ensures ∙ ap (provided_or_none c.args.self.now) (sym c.in_ok-k.ensures.known)) (c.in_default-first_unmet_pair.ensures.none refl);
}
