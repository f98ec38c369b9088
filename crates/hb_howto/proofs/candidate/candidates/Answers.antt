use Rattle.std.proofs.Common.{sym}
use Rattle.std.proofs.lemmas.Result.{err_from_is_err_and}
use Rattle.hb_howto.proofs.CandidateLemmas.{found-more, too-many}
use Rattle.hb_howto.proofs.candidate.candidates.Goals as goal

pub returns-in_err-add-in-Some-clause-refused : goal.returns-in_err-add-in-Some-clause-refused
returns-in_err-add-in-Some-clause-refused c =
    let p = err_from_is_err_and c.from_residual.result c.from_residual.ensures.1 in
    rw (p.1, p.2) (too-many c.args.hier.now c.args.given.now c.loop-at.at c.in-Some.k c.loop-at.all.items _ c.loop-at.invariant (sym c.in-Some.ensures.at) c.in_err-add-in-Some.ensures.refused)

pub loop-at-preserved : goal.loop-at-preserved
loop-at-preserved c =
    found-more c.args.hier.now c.args.given.now c.loop-at.at c.in-Some.k c.loop-at.all.items c.add.new.all.items c.loop-at.invariant (sym c.in-Some.ensures.at) c.in_ok-add-in-Some.ensures.each c.in_ok-add-in-Some.ensures.counted
