use Rattle.std.proofs.Common.{◌≡◌, length}
use Rattle.hb_mixin.specs.Fields.{AreFirstNames}
use Rattle.hb_world.specs.Taking.{Extends}
use Rattle.hb_mixin.proofs.replaying.own_names.Given as goal

abbrev pub invariant-loop-field : goal.invariant-loop-field
invariant-loop-field l = Extends l.fn.names l.names × (length l.own.items ≡ l.field-index) × AreFirstNames l.names l.record.name l.own.items l.record.fields.now
