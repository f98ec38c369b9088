use Rattle.std.proofs.Common.{◌≡◌, length}
use Rattle.hb_mixin.proofs.fields.elaborate.Given as goal

abbrev pub invariant-loop-field : goal.invariant-loop-field
invariant-loop-field l = length l.types.items ≡ l.field-index
