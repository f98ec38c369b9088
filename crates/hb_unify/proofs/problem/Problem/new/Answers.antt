use Rattle.std.proofs.Common.{refl}
use Rattle.std.proofs.lemmas.List.{map-append, replicate_more}
use Rattle.hb_unify.specs.Problems.{passed}
use Rattle.hb_unify.proofs.problem.Problem.new.Goals as goal

pub loop-at-init : goal.loop-at-init
loop-at-init c = rw c.new-holes.ensures.items refl

pub loop-at-preserved : goal.loop-at-preserved
loop-at-preserved c = rw (c.in_ok-push.ensures.items, map-append, c.loop-at.invariant) (replicate_more c.loop-at._at passed)
