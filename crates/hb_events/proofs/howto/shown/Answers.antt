use Rattle.std.proofs.Common.{sym, arith}
use Rattle.std.proofs.lemmas.List.{length-take-le}
use Rattle.hb_events.proofs.TakeLemmas.{own_front}
use Rattle.hb_events.proofs.howto.shown.Goals as goal

pub slice_bounds-result-end : goal.slice_bounds-result-end
slice_bounds-result-end c = sym (length-take-le 1000 c.args.lists.now (omega (arith, c.if-lists-le-MOST_LISTS.false)))

pub returns-then-lists-le-MOST_LISTS : goal.returns-then-lists-le-MOST_LISTS
returns-then-lists-le-MOST_LISTS c = own_front 1000 c.args.lists.now c.if-lists-le-MOST_LISTS.true
