use Rattle.std.proofs.Common.{sym}
use Rattle.hb_reduce.proofs.KindLemmas.{settled-any, settled-neutral}
use Rattle.hb_reduce.proofs.settle.settle.Goals as goal

pub returns-then-not-may_fire-clause-at : goal.returns-then-not-may_fire-clause-at
returns-then-not-may_fire-clause-at c =
    let h = c.loop-alloc.invariant in settled-any _ _ _ c.loop-alloc.now h.0 (sym c.if-not-may_fire.ensures) h.1

pub returns-then-not-shows-clause-at : goal.returns-then-not-shows-clause-at
returns-then-not-shows-clause-at c =
    let h = c.loop-alloc.invariant in settled-neutral _ _ _ c.loop-alloc.now h.0 (c.shows.ensures c.if-not-shows.true) h.1
