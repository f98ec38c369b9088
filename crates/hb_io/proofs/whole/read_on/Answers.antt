use Rattle.std.proofs.Common.{rules, arith}
use Rattle.hb_io.proofs.Front.{went_on}
use Rattle.hb_io.proofs.whole.read_on.Goals as goal

pub returns-clause-read : goal.returns-clause-read
returns-clause-read g c =
    went_on _ c.args.bytes.now.items _ c.read.new.buf c.len.result c.in_ok-count.count (omega (arith, c.args.bytes.now.ok)) c.if-count-eq0.false c.in_ok-count.ensures.within c.in_ok-count.ensures.bytes (search rules)
