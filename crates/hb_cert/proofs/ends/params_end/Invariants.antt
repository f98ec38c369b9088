use Rattle.std.proofs.Common.{take}
use Rattle.hb_env.specs.Plain.{trees}
use Rattle.hb_cert.specs.Ends.{EndsParams}
use Rattle.hb_cert.proofs.ends.params_end.Given as goal

abbrev pub invariant-loop-ty : goal.invariant-loop-ty
invariant-loop-ty l = EndsParams l.table (trees (take l.ty-index l.params)) l.before
