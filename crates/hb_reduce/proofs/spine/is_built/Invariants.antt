use Rattle.std.proofs.Common.{◌≡◌}
use Rattle.hb_reduce.specs.Kinds.{kind, is_built}
use Rattle.hb_reduce.proofs.spine.is_built.Given as goal

abbrev pub invariant-loop-f : goal.invariant-loop-f
invariant-loop-f l = is_built l.fn.rec.0 l.left (kind l.now) ≡ is_built l.fn.rec.0 l.fn.count (kind l.fn.part)
