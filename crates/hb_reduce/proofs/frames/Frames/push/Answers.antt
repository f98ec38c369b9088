use Rattle.std.proofs.Common.{◌≡◌, ◌-◌, ◌^◌, min, length, [], arith}
use Rattle.hb_reduce.proofs.StackLemmas.{stack-length, all-counts, grown-counts, pushed-view, pushed-counts}
use Rattle.hb_reduce.specs.Stack.{stack}
use Rattle.hb_reduce.proofs.frames.Frames.push.Goals as goal

pub invariant_of-self-2 : goal.invariant_of-self-2
invariant_of-self-2 c =
    let e = stack-length [] c.self.inside.layers.items in
    let l : c.down.result ≡ min (length (stack [] c.self.inside.layers.items)) (2 ^ 32 - 1) =
    omega (arith, c.self.inside.layers.ok, c.len.ensures, c.down.ensures) in
    pushed-counts _ _ _ _ _ c.in_ok-push.ensures.items c.self.invariant
    (grown-counts _ _ _ _ c.down.result c.nodes.result c.depth.result _ _
    (all-counts [] _ _ _ c.self.invariant) l c.nodes.ensures c.depth.ensures
    c.saturating_add-around.ensures
    (omega (arith, c.max-reach.ensures, c.saturating_add.ensures, c.saturating_add-2.ensures)))

pub returns : goal.returns
returns c = pushed-view _ _ _ _ c.in_ok-push.ensures.items c.self.view_is
