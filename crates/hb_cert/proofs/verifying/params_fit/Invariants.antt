use Rattle.std.proofs.Common.{◌≡◌, take}
use Rattle.hb_env.specs.Plain.{trees}
use Rattle.hb_calculus.specs.Scope.{AreScoped}
use Rattle.hb_cert.proofs.verifying.params_fit.Given as goal

abbrev pub invariant-loop-ty : goal.invariant-loop-ty
invariant-loop-ty l = (l.before ≡ l.ty-index) × AreScoped 0 (trees (take l.ty-index l.params))
