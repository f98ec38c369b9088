use Rattle.std.proofs.Common.{◌≡◌, replicate, None}
use Rattle.hb_writer.specs.Text.{bound_names}
use Rattle.hb_writer.proofs.declaration.unnamed.Given as goal

abbrev pub invariant-loop-i : goal.invariant-loop-i
invariant-loop-i l = bound_names l.bound.items ≡ replicate l._i None
