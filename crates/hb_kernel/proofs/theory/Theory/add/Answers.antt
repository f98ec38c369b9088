use Rattle.hb_calculus.specs.Budget.{budget}
use Rattle.hb_calculus.specs.Declarations.{names, names_of}
use Rattle.hb_calculus.specs.Typing.{IsTyped}
use Rattle.hb_calculus.proofs.Sound.{Accepts-sound}
use Rattle.hb_env.specs.Plain.{plain}
use Rattle.hb_kernel.proofs.TheoryLemmas.{pushed-well_formed, on-ok, not-repeated}
use Rattle.hb_kernel.proofs.theory.Theory.add.Goals as goal

pub returns-in-Err-clause-refusal : goal.returns-in-Err-clause-refusal
returns-in-Err-clause-refusal c = rw (← c.self.view_is) c.in-Err.ensures.refusal

pub unreachable-requires : goal.unreachable-requires
unreachable-requires c =
    not-repeated (names c.self.inside.env) (names_of (plain c.args.decl)) c.in-Err-Redeclared.field-0-0.0 c.in-Ok.ensures.ready.new
    (rw c.in-Err-Redeclared.field-0-is at c.in-Err-Redeclared.ensures.cause)

pub invariant_of-self : goal.invariant_of-self
invariant_of-self c =
    pushed-well_formed c.self.inside.env c.push.new.self (plain c.args.decl) c.push.result c.push.ensures.added c.push.ensures.unchanged c.self.invariant
    (Accepts-sound c.self.inside.env (budget c.args.limits.now) c.in-Ok.ensures.accepted) c.in-Ok.ensures.ready.new

pub returns-clause-typed : goal.returns-clause-typed
returns-clause-typed c =
    on-ok c.match-push.result (IsTyped c.args.self.now (plain c.args.decl))
    (rw (← c.self.view_is) (Accepts-sound c.self.inside.env (budget c.args.limits.now) c.in-Ok.ensures.accepted))
