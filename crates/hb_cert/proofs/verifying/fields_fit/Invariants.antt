use Rattle.std.proofs.Common.{◌≡◌, ◌+◌, take}
use Rattle.hb_env.specs.Plain.{plain_fields}
use Rattle.hb_calculus.specs.Declarations.{field_types}
use Rattle.hb_calculus.specs.Scope.{AreScoped}
use Rattle.hb_cert.proofs.verifying.fields_fit.Given as goal

abbrev pub invariant-loop-field : goal.invariant-loop-field
invariant-loop-field l = (l.before ≡ l.fn.outside + l.field-index) × AreScoped l.fn.outside (field_types (plain_fields (take l.field-index l.fields)))
