use Rattle.std.proofs.Common.{arith, sym}
use Rattle.hb_words.proofs.NumberLemmas.{begun, ended, next}
use Rattle.hb_words.proofs.numbers.number.Goals as goal

pub loop-digit-init : goal.loop-digit-init
loop-digit-init c = (omega arith, begun _)

pub loop-digit-preserved : goal.loop-digit-preserved
loop-digit-preserved c = (
  c.in_ok-value.ensures.least,
  next _ _ _ _ c.loop-digit-test.true c.in_ok-value.ensures.written.0 c.in_ok-value.ensures.written.1 c.loop-digit.invariant.1,
)

pub returns-clause-written : goal.returns-clause-written
returns-clause-written c =
    ended c.args.text.now c.as_bytes-digits.result.now _ _ c.as_bytes-digits.ensures.value (sym c.if-is_empty.ensures) c.loop-digit-test.false c.loop-digit.invariant.1
