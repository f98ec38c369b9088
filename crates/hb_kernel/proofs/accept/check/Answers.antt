use Rattle.std.proofs.Common.{◌∙◌, ap}
use Rattle.hb_term.specs.Meaning.{tree}
use Rattle.hb_calculus.specs.Budget.{budget}
use Rattle.hb_kernel.specs.Contexts.{types}
use Rattle.hb_kernel.proofs.AcceptLemmas.{check-type-fault, check-term-fault, check-below-fault}
use Rattle.hb_kernel.proofs.accept.check.Goals as goal

pub returns-in-Err-clause-fault : goal.returns-in-Err-clause-fault
returns-in-Err-clause-fault c =
    check-type-fault c.args.env.now (budget c.args.limits.now) (types c.args.context.now) (tree c.args.t.now) (tree c.args.ty.now) c.in-Err.fault c.in-Err.ensures.fault

pub returns-in-Err-infer-clause-fault : goal.returns-in-Err-infer-clause-fault
returns-in-Err-infer-clause-fault c =
    check-term-fault c.args.env.now (budget c.args.limits.now) (types c.args.context.now) (tree c.args.t.now) (tree c.args.ty.now) c.in-Ok.field-0 c.in-Err-infer.fault c.in-Ok.ensures.sort c.in-Err-infer.ensures.fault

pub returns-clause-fault : goal.returns-clause-fault
returns-clause-fault c =
    check-below-fault c.args.env.now (budget c.args.limits.now) (types c.args.context.now) (tree c.args.t.now) (tree c.args.ty.now) c.in-Ok.field-0 c.in-Ok-infer.inferred c.in_scope-wanted.result c.in-Err-ask_below.fault
    c.in-Ok.ensures.sort c.in-Ok-infer.ensures.inferred (c.in-Ok-infer.ensures.depth ∙ c.requires.context.counted) (ap tree c.in_scope-wanted.ensures.term ∙ ap tree c.in_ok-copy.ensures) c.in-Err-ask_below.ensures.fault
