use Rattle.std.proofs.Common.{ap, length, [], arith}
use Rattle.hb_reduce.proofs.StackLemmas.{stack-length}
use Rattle.hb_reduce.proofs.frames.Frames.len.Goals as goal

pub returns : goal.returns
returns c =
    let e = stack-length [] c.self.inside.layers.items in
    let v = ap length c.self.view_is in
    omega (arith, c.self.inside.layers.ok, c.len.ensures)
