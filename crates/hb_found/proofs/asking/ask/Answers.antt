use Rattle.std.proofs.Common.{◌≡◌, ◌∙◌, ◌<◌, length, arith, rules}
use Rattle.hb_found.proofs.FrameLemmas.{read_at}
use Rattle.hb_found.proofs.asking.ask.Goals as goal

pub passed-requires-clause-none : goal.passed-requires-clause-none
passed-requires-clause-none c =
    let n : c.len.result ≡ length c.loop-frame.frame.needs.items = search (rules, c.len.ensures) in
    read_at c.loop-frame.frame.needs.items c.len.result c.loop-frame.frame.at c.index.result.now _ n c.loop-frame-test.true c.index.ensures c.in-None.is

pub loop-frame-smaller : goal.loop-frame-smaller
loop-frame-smaller c =
    let n : c.len.result ≡ length c.loop-frame.frame.needs.items = search (rules, c.len.ensures) in
    let h : c.loop-frame.frame.at < length c.loop-frame.frame.needs.items = omega (arith, n, c.loop-frame-test.true) in
    rw (c.in_ok-frame-in-None.ensures.same.2, c.in_ok-frame-in-None.ensures.same.3) (omega (arith, h))

pub loop-frame-preserved : goal.loop-frame-preserved
loop-frame-preserved c = (
  c.in_ok-frame-in-None.ensures.asking,
  c.in_ok-frame-in-None.ensures.same.0 ∙ c.loop-frame.invariant.1,
  c.in_ok-frame-in-None.ensures.same.1 ∙ c.loop-frame.invariant.2,
)

pub waiting-requires-clause-need : goal.waiting-requires-clause-need
waiting-requires-clause-need c =
    let n : c.len.result ≡ length c.loop-frame.frame.needs.items = search (rules, c.len.ensures) in
    read_at c.loop-frame.frame.needs.items c.len.result c.loop-frame.frame.at c.index.result.now _ n c.loop-frame-test.true c.index.ensures c.in-Some.is

pub returns-in-Some-clause-then : goal.returns-in-Some-clause-then
returns-in-Some-clause-then c = rw c.loop-frame.invariant.1 at c.waiting.ensures.then

pub returns-in-Some-clause-after : goal.returns-in-Some-clause-after
returns-in-Some-clause-after c = rw c.loop-frame.invariant.2 at c.waiting.ensures.after

pub returns-clause-then : goal.returns-clause-then
returns-clause-then c = rw c.loop-frame.invariant.1 at c.whole.ensures.then

pub returns-clause-after : goal.returns-clause-after
returns-clause-after c = rw c.loop-frame.invariant.2 at c.whole.ensures.after
