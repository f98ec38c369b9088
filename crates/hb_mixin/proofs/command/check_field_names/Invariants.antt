use Rattle.std.proofs.Common.{map, take}
use Rattle.hb_mixin.specs.Refusing.{NoneKept}
use Rattle.hb_raw.specs.Views.{field}
use Rattle.hb_mixin.proofs.command.check_field_names.Given as goal

abbrev pub invariant-loop-field : goal.invariant-loop-field
invariant-loop-field l = NoneKept l.names (map field (take l.field-index l.fields))
