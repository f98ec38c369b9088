use Rattle.hb_calculus.specs.Budget.{budget}
use Rattle.hb_env.specs.Plain.{plain}
use Rattle.hb_kernel.proofs.RefusalLemmas.{add-told}
use Rattle.hb_kernel.proofs.admit.admit.Goals as goal

pub returns-in-Err-accept-clause-refusal : goal.returns-in-Err-accept-clause-refusal
returns-in-Err-accept-clause-refusal c =
    add-told c.args.env.now (budget c.args.limits.now) (plain c.args.decl.now) c.in-Err-accept.fault c.refusal.result c.refusal.ensures c.in-Ok.ensures.ready c.in-Err-accept.ensures.fault
