use Rattle.std.proofs.Common.{map}
use Rattle.hb_base.specs.declared.name_id.NameId.{NameId}
use Rattle.hb_step.proofs.NameLemmas.{unfit_in}
use Rattle.hb_step.proofs.naming.first_taken.Goals as goal

pub returns-in-Some : goal.returns-in-Some
returns-in-Some c = record {
  taken =
      unfit_in
      c.args.env.now
      c.args.hier.now
      (map (λ (m : NameId). m.0) c.args.made.now)
      c.args.decls.now
      c.loop-at.at
      c.index-decls-at.result
      c.in-Some.name
      c.loop-at-test.true
      c.index-decls-at.is
      c.in-Some.ensures;
}
