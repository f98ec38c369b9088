use Rattle.std.proofs.Common.{◌∙◌, [], length}
use Rattle.hb_term.specs.Meaning.{tree}
use Rattle.hb_calculus.specs.Budget.{budget}
use Rattle.hb_calculus.specs.Typing.{extended}
use Rattle.hb_calculus.proofs.Sound.{Infers-sound}
use Rattle.hb_env.specs.Plain.{trees}
use Rattle.hb_kernel.specs.Answers.{FailsAt}
use Rattle.hb_kernel.specs.Scoping.{IsKnown}
use Rattle.hb_kernel.proofs.RefusalLemmas.{ask-refused}
use Rattle.hb_kernel.proofs.TheoryLemmas.{known-here}
use Rattle.hb_kernel.proofs.theory.Theory.infer.Goals as goal

pub returns-in-Ok-clause-typed : goal.returns-in-Ok-clause-typed
returns-in-Ok-clause-typed c =
    let h = rw c.term-2.ensures.value at c.in-Ok.ensures.inferred in
    rw (← c.self.view_is) (Infers-sound c.self.inside.env (budget c.args.limits.now) h)

pub returns-in-Err-clause-refusal : goal.returns-in-Err-clause-refusal
returns-in-Err-clause-refusal c =
    let E = c.self.inside.env in
    let xs = c.args.context.now in
    let G = extended [] (trees xs) in
    let t = tree c.args.t.now.term in
    let k = rw c.term.ensures.value at (c.is_known.ensures.0 c.if-not-is_known.false) in
    let n = c.from.ensures ∙ c.depth.ensures ∙ c.requires.depth in
    let f = rw c.term-2.ensures.value at c.in-Err.ensures.fault in
    rw
    (← c.self.view_is)
    (ask-refused (¬ IsKnown E (length G) t) (IsKnown E (length G) t) (λ a i. FailsAt E (budget c.args.limits.now) G t a i) c.in-Err.fault c.refusal.result c.refusal.ensures (known-here E c.from.result xs t n k) f)
