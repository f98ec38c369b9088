use Rattle.std.proofs.Common.{◌≡◌, []}
use Rattle.hb_env.specs.Plain.{plains}
use Rattle.hb_strict.specs.Strict.{AreStrict}
use Rattle.hb_cert.proofs.verifying.declarations.Given as goal

abbrev pub invariant-loop-at : goal.invariant-loop-at
invariant-loop-at l = AreStrict [] l.env × (plains l.decls.items ≡ l.env)
