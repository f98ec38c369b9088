use Rattle.std.proofs.Common.{◌≤◌, length, arith}
use Rattle.std.proofs.lemmas.Option.{slice_get_past}
use Rattle.hb_writer.proofs.BoundLemmas.{bound_read, bound_past}
use Rattle.hb_writer.proofs.term.bound_at.Goals as goal

pub returns-then-at-bound : goal.returns-then-at-bound
returns-then-at-bound c = bound_read c.args.bound.now c.args.level c.if-at-bound.true

pub returns-else-at-bound : goal.returns-else-at-bound
returns-else-at-bound c =
    let bs = c.args.bound.now in
    let h : length bs ≤ c.args.level = omega (arith, c.if-at-bound.false) in
    bound_past bs c.args.level (slice_get_past bs c.args.level h)
