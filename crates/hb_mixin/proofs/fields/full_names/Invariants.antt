use Rattle.std.proofs.Common.{◌≡◌, ◌+◌, length, take}
use Rattle.hb_mixin.specs.Fields.{AreNamesOf}
use Rattle.hb_world.specs.Taking.{Extends}
use Rattle.hb_mixin.proofs.fields.full_names.Given as goal

abbrev pub invariant-loop-short : goal.invariant-loop-short
invariant-loop-short l = Extends l.fn.names l.names × (length l.left.items + l.short-index ≡ length l.fn.types.items) × AreNamesOf l.names l.name.name (take l.short-index l.shorts) l.full.items
