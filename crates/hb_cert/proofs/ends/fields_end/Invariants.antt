use Rattle.std.proofs.Common.{take}
use Rattle.hb_env.specs.Plain.{plain_fields}
use Rattle.hb_calculus.specs.Declarations.{field_types}
use Rattle.hb_cert.specs.Ends.{EndFields}
use Rattle.hb_cert.proofs.ends.fields_end.Given as goal

abbrev pub invariant-loop-field : goal.invariant-loop-field
invariant-loop-field l = EndFields l.table l.fn.last l.level (field_types (plain_fields (take l.field-index l.fields))) l.before
