use Rattle.std.proofs.Common.{◌≡◌, ◌∙◌, sym, ap, List, [], length, ◌-◌}
use Rattle.std.specs.Prelude.{slice_get, Some, Bool}
use Rattle.hb_reduce.specs.Frames.{Frame}
use Rattle.hb_reduce.specs.Stack.{frame, stack}
use Rattle.hb_reduce.specs.Kinds.{asks, may_fire}
use Rattle.hb_reduce.specs.declared.frames.Layer.{Layer}
use Rattle.hb_reduce.proofs.StackLemmas.{last-layer}
use Rattle.hb_reduce.proofs.frames.Frames.may_fire.Goals as goal

last-asks : (xs : List Layer) (x : Layer) (now : List Frame) (b : Bool) → Some x ≡ slice_get xs (length xs - 1) → stack [] xs ≡ now → b ≡ asks (frame x.side) → b ≡ may_fire now
last-asks xs x now b e h k = k ∙ sym (ap may_fire (last-layer [] xs x (sym e)).1) ∙ ap may_fire h

pub returns-in-Some : goal.returns-in-Some
returns-in-Some c =
    last-asks c.self.inside.layers.items c.in-Some.layer.now c.args.self.now c.asks.result
    (rw c.deref.ensures.value at c.in-Some.ensures.value) c.self.view_is c.asks.ensures
