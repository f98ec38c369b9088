use Rattle.std.proofs.Common.{◌≡◌, ◌+◌, length, get_or, arith}
use Rattle.hb_lex.proofs.Way.{step_stuck, ends_reading, ends_stuck}
use Rattle.hb_lex.proofs.lexer.tokens.Goals as goal

pub returns-in-None-clause-refused : goal.returns-in-None-clause-refused
returns-in-None-clause-refused c = (
  c.in_default.ensures.cases.1,
  step_stuck c.step.new.tokens.items c.of.result c.in_ok-step.field-0 (omega arith)
      c.loop-i.invariant.came c.of.ensures c.in_ok-step.ensures.step c.in-None.is,
)

pub returns-in-Between-clause-read : goal.returns-in-Between-clause-read
returns-in-Between-clause-read c =
    let bytes = c.args.bytes.now in
    let e : c.loop-i.i ≡ length bytes = omega arith in
    ends_reading c.step-2.new.tokens.items (get_or bytes (length bytes) 0) (length bytes + 1) c.in_ok-last.field-0
    (rw e at c.loop-i.invariant.came) c.in_ok-last.ensures.step (cc)

pub returns-in_default-2-clause-refused : goal.returns-in_default-2-clause-refused
returns-in_default-2-clause-refused c =
    let bytes = c.args.bytes.now in
    let e : c.loop-i.i ≡ length bytes = omega arith in (
      c.in_default.ensures.cases.1,
      ends_stuck c.step-2.new.tokens.items (get_or bytes (length bytes) 0) (length bytes + 1)
          c.in_ok-last.field-0 (rw e at c.loop-i.invariant.came) c.in_ok-last.ensures.step (c.in_default-2.not-Some _),
    )

pub returns-in_default-last : goal.returns-in_default-last
returns-in_default-last c =
    let bytes = c.args.bytes.now in
    let e : c.loop-i.i ≡ length bytes = omega arith in
    record {
      text = tt;
      read = tt;
      refused = (
        c.in_default.ensures.cases.1,
        ends_stuck c.step-2.new.tokens.items (get_or bytes (length bytes) 0)
            (length bytes + 1) c.in_ok-last.field-0 (rw e at c.loop-i.invariant.came) c.in_ok-last.ensures.step
            (λ i. c.in_default-last.not-Between (cc)),
      );
    }
