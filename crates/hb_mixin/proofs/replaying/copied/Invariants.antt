use Rattle.std.proofs.Common.{◌≡◌, take}
use Rattle.hb_env.specs.Plain.{plain_fields}
use Rattle.hb_mixin.proofs.replaying.copied.Given as goal

abbrev pub invariant-loop-field : goal.invariant-loop-field
invariant-loop-field l = plain_fields l.all.items ≡ plain_fields (take l.field-index l.fields)
