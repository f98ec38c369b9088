use Rattle.std.proofs.Common.{ap}
use Rattle.hb_term.specs.Meaning.{tree}
use Rattle.hb_calculus.specs.Budget.{budget}
use Rattle.hb_env.specs.Plain.{plain, trees, plain_fields}
use Rattle.hb_kernel.proofs.AcceptLemmas.{axiom-accepted, axiom-fault, definition-accepted, definition-fault, record-answer}
use Rattle.hb_kernel.proofs.accept.accept.Goals as goal

pub returns-in-Ok-clause-accepted : goal.returns-in-Ok-clause-accepted
returns-in-Ok-clause-accepted c =
    axiom-accepted c.args.env.now (budget c.args.limits.now) (plain c.args.decl.now) c.in-Axiom.name.0 (tree c.in-Axiom.ty) c.in-Ok.field-0 (ap plain c.in-Axiom.is) c.in-Ok.ensures.sort

pub returns-in-Err-clause-fault : goal.returns-in-Err-clause-fault
returns-in-Err-clause-fault c =
    axiom-fault c.args.env.now (budget c.args.limits.now) (plain c.args.decl.now) c.in-Axiom.name.0 (tree c.in-Axiom.ty) c.in-Err.fault (ap plain c.in-Axiom.is) c.in-Err.ensures.fault

pub returns-in-Ok-check-clause-accepted : goal.returns-in-Ok-check-clause-accepted
returns-in-Ok-check-clause-accepted c =
    definition-accepted c.args.env.now (budget c.args.limits.now) (plain c.args.decl.now) c.in-Def.name.0 (tree c.in-Def.ty) (tree c.in-Def.body) (ap plain c.in-Def.is) c.in-Ok-check.ensures.checked

pub returns-in-Err-check-clause-fault : goal.returns-in-Err-check-clause-fault
returns-in-Err-check-clause-fault c =
    definition-fault c.args.env.now (budget c.args.limits.now) (plain c.args.decl.now) c.in-Def.name.0 (tree c.in-Def.ty) (tree c.in-Def.body) c.in-Err-check.fault (ap plain c.in-Def.is) c.in-Err-check.ensures.fault

pub returns-in-Record-clause-fault : goal.returns-in-Record-clause-fault
returns-in-Record-clause-fault c =
    record-answer c.args.env.now (budget c.args.limits.now) (plain c.args.decl.now) c.in-Record.name.0 c.in-Record.maker.0 c.in-Record.level (trees c.in-Record.params.items) (plain_fields c.in-Record.fields.items) c.accept_record.result
    (ap plain c.in-Record.is) (rw (c.deref.ensures.value, c.deref-in-Record.ensures.value) at c.accept_record.ensures.fault)
