use Rattle.std.proofs.Common.{refl}
use Rattle.hb_calculus.specs.Inference.{form_other}
use Rattle.hb_kernel.proofs.FaultLemmas.{head-fault}
use Rattle.hb_kernel.proofs.ask.product_of.Goals as goal

pub returns-in-Err-clause-fault : goal.returns-in-Err-clause-fault
returns-in-Err-clause-fault c = head-fault _ _ _ _ c.args.ty.now c.in-Err.fault c.in-Err.ensures.fault

pub returns-in-None-clause-fault : goal.returns-in-None-clause-fault
returns-in-None-clause-fault c =
    (form_other c.in-Ok.ensures.form (rw c.term.ensures.value at c.in-None.ensures) refl, c.in-Ok.ensures.depth)
