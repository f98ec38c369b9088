use Rattle.std.proofs.Common.{length, ap, ◌∙◌, arith}
use Rattle.hb_calculus.specs.Budget.{budget}
use Rattle.hb_step.proofs.AddLemmas.{begun, next, stopped, within, cut_back}
use Rattle.hb_step.proofs.adding.add_all.Goals as goal

pub loop-decl-init : goal.loop-decl-init
loop-decl-init c =
    (begun (budget c.args.limits.now) c.args.theory.now c.args.decls.now, c.len-before.ensures.count ∙ ap length c.env.ensures.same)

pub cut-requires : goal.cut-requires
cut-requires c =
    let l = within (budget c.args.limits.now) c.args.theory.now c.loop-decl.theory c.args.decls.now c.loop-decl.decl-index c.loop-decl.invariant.0 in
    let n = ap length c.in-Err.ensures.unchanged in
    let e = c.loop-decl.invariant.1 in
    omega (arith, l, n, e)

pub returns-in-Err-clause-stops : goal.returns-in-Err-clause-stops
returns-in-Err-clause-stops c =
    stopped
    (budget c.args.limits.now)
    c.args.theory.now
    c.loop-decl.theory
    c.args.decls.now
    c.loop-decl.decl-index
    c.decl-item.result
    c.in-Err.refusal.what
    c.loop-decl-test.true
    c.decl-item.is
    c.loop-decl.invariant.0
    c.in-Err.ensures.fails

pub returns-in-Err-clause-unchanged : goal.returns-in-Err-clause-unchanged
returns-in-Err-clause-unchanged c =
    c.cut.ensures
    ∙ rw
    c.in-Err.ensures.unchanged
    (cut_back
    (budget c.args.limits.now)
    c.args.theory.now
    c.loop-decl.theory
    c.args.decls.now
    c.loop-decl.decl-index
    c.len-before.result
    c.loop-decl.invariant.0
    c.loop-decl.invariant.1)

pub loop-decl-preserved : goal.loop-decl-preserved
loop-decl-preserved c = (
  rw
      c.in-Ok.ensures.added
      (next
      (budget c.args.limits.now)
      c.args.theory.now
      c.loop-decl.theory
      c.args.decls.now
      c.loop-decl.decl-index
      c.decl-item.result
      c.loop-decl-test.true
      c.decl-item.is
      c.loop-decl.invariant.0),
  c.loop-decl.invariant.1,
)
