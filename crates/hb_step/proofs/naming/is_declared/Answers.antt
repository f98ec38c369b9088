use Rattle.std.proofs.Common.{refl}
use Rattle.hb_env.proofs.RoleLemmas.{name_is_in}
use Rattle.hb_step.proofs.naming.is_declared.Goals as goal

pub returns-in-Some : goal.returns-in-Some
returns-in-Some c =
    ((λ _. name_is_in c.args.env.now c.in-Some.field-0 c.args.name.0 c.in-Some.ensures.found), (λ _. refl))
