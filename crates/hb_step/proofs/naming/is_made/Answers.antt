use Rattle.std.proofs.Common.{arith, ◌≡◌, map, subst, ℕ, get_or}
use Rattle.std.proofs.lemmas.Bool.Decides.{nat_tests}
use Rattle.hb_base.specs.declared.name_id.NameId.{NameId}
use Rattle.hb_calculus.specs.Declarations.{IsIn}
use Rattle.hb_step.proofs.NameLemmas.{is_made}
use Rattle.hb_step.proofs.naming.is_made.Goals as goal

pub returns-then-eq : goal.returns-then-eq
returns-then-eq c _ =
    let ms = c.args.made.now in
    let m : NameId = get_or ms c.loop-other.other-index (record { 0 = 0 }) in
    let e : m.0 ≡ c.args.name.0 = grind (arith, nat_tests, c.eq.ensures, c.if-eq.true) in
    subst (λ (n : ℕ). IsIn n (map (λ (x : NameId). x.0) ms)) e (is_made ms c.loop-other.other-index (record { 0 = 0 }) c.loop-other-test.true)
