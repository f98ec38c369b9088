use Rattle.std.proofs.Common.{◌≤◌, refl, subst, arith}
use Rattle.hb_tree.specs.Tree.{loose, apply}
use Rattle.hb_term.specs.Meaning.{tree}
use Rattle.hb_calculus.specs.Telescopes.{former}
use Rattle.hb_calculus.specs.Inference.{form_other}
use Rattle.hb_env.specs.Plain.{trees}
use Rattle.hb_kernel.proofs.FaultLemmas.{head-fault}
use Rattle.hb_kernel.proofs.AppliedLemmas.{applied-loose, not-applied}
use Rattle.hb_kernel.proofs.arguments.record_of.Goals as goal

pub returns-in-Err-clause-fault : goal.returns-in-Err-clause-fault
returns-in-Err-clause-fault c = head-fault _ _ _ _ c.args.ty.now c.in-Err.fault c.in-Err.ensures.fault

pub returns-in-Some-clause-in_scope : goal.returns-in-Some-clause-in_scope
returns-in-Some-clause-in_scope c =
    let h = rw c.in-Some.is at c.in_ok-found.ensures in
    let k : loose (tree c.term.result.now) ≤ c.args.ty.now.depth = let a = c.term.ensures.in_scope in let b = c.in-Ok.ensures.depth in omega arith in
    let g : loose (apply (former c.args.rec.0) (trees c.in-Some.params.items)) ≤ c.args.ty.now.depth = subst (λ t. loose t ≤ c.args.ty.now.depth) h.0 k in
    (applied-loose c.args.ty.now.depth (former c.args.rec.0) (trees c.in-Some.params.items) g).1

pub returns-in-None-clause-fault : goal.returns-in-None-clause-fault
returns-in-None-clause-fault c =
    let h = rw c.in-None.is at c.in_ok-found.ensures in (
      form_other c.in-Ok.ensures.form (rw c.term.ensures.value at (not-applied c.args.env.now c.args.rec.0 c.param_count-count.result (tree c.term.result.now) c.param_count-count.ensures h)) refl,
      c.in-Ok.ensures.depth,
    )
