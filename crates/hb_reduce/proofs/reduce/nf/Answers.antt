use Rattle.std.proofs.Common.{◌∙◌, ap, subst}
use Rattle.hb_term.specs.Meaning.{tree}
use Rattle.hb_calculus.specs.Budget.{budget}
use Rattle.hb_calculus.specs.Sequence.{Exceeds}
use Rattle.hb_reduce.proofs.ScopeLemmas.{normal-scope}
use Rattle.hb_reduce.proofs.reduce.nf.Goals as goal

pub scoped-requires : goal.scoped-requires
scoped-requires c =
    normal-scope _ c.definitions_are_closed.ensures _ _ _ _ _ _ _ (rw c.in-Some.is at c.in_ok-form.ensures)
    (c.in_ok-part.ensures ∙ ap tree c.in_ok-copy.ensures) c.term.ensures.in_scope c.depth.ensures c.as_ref.ensures

pub returns-in_ok-scoped-in-None : goal.returns-in_ok-scoped-in-None
returns-in_ok-scoped-in-None c = (
  record {
    term = ap tree (c.in_ok-scoped-in-None.ensures.0 ∙ c.term-in-None.ensures.value);
    depth = c.in_ok-scoped-in-None.ensures.1 ∙ c.depth-in-None.ensures;
  },
  subst (λ x. Exceeds c.args.env.now (budget c.args.limits.now) x)
      (c.in_ok-part.ensures ∙ ap tree (c.in_ok-copy.ensures ∙ c.term.ensures.value))
      (rw c.in-None.is at c.in_ok-form.ensures),
)
