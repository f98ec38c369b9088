use Rattle.std.proofs.Common.{sym, ◌∙◌}
use Rattle.hb_joins.proofs.CandidateLemmas.{none_missing}
use Rattle.hb_joins.proofs.joins.Joins.missing_join.Goals as goal

pub returns-then-subset-clause-none : goal.returns-then-subset-clause-none
returns-then-subset-clause-none c = λ _.
    none_missing c.args.self.now c.structures_are_allowed.ensures c.args.set.now c.args.a.0 c.args.b.0 c.in_ok-j.j.0 c.in_ok-j.ensures.found
    (rw (← c.set-2.ensures) (sym c.subset-2.ensures ∙ c.if-subset.true))
