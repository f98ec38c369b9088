use Rattle.std.proofs.Common.{◌≡◌, map, take}
use Rattle.hb_mixin.proofs.fields.short_names.Given as goal

abbrev pub invariant-loop-field : goal.invariant-loop-field
invariant-loop-field l = l.names.items ≡ map (λ f. f.name.name) (take l.field-index l.fields)
