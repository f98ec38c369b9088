use Rattle.std.proofs.Common.{arith, ◌≡◌, subst, ℕ, take}
use Rattle.std.proofs.lemmas.Bool.Decides.{nat_tests}
use Rattle.hb_calculus.specs.Declarations.{names_of, IsIn}
use Rattle.hb_env.specs.Plain.{plain}
use Rattle.hb_env.proofs.NameLemmas.{in_take}
use Rattle.hb_step.proofs.naming.stands_before.Goals as goal

pub returns-then-eq : goal.returns-then-eq
returns-then-eq c _ =
    let ns = names_of (plain c.args.decl.now) in
    let e : c.name_at.result.0 ≡ c.args.name.0 = grind (arith, nat_tests, c.eq.ensures, c.if-eq.true) in
    subst (λ (n : ℕ). IsIn n (take c.args.end ns)) e (in_take ns c.loop-at.at c.name_at.result.0 c.args.end c.name_at.ensures c.loop-at-test.true)
