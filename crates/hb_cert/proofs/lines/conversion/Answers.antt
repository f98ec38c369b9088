use Rattle.std.proofs.Common.{rules}
use Rattle.hb_strict.specs.Tables.{IsTypeOf}
use Rattle.hb_cert.proofs.EndLemmas.{on_ok_always}
use Rattle.hb_cert.proofs.lines.conversion.Goals as goal

pub loop-member-init : goal.loop-member-init
loop-member-init c = let t : IsTypeOf c.args.table.now c.in_ok-line.line c.in_ok-first.first = search rules in λ h. t c.args.env.now h

pub loop-member-preserved : goal.loop-member-preserved
loop-member-preserved c = λ h. c.in_ok-last.ensures h c.in_ok-line.line (c.loop-member.invariant h)

pub returns : goal.returns
returns c = on_ok_always c.made.result (λ h. c.in_ok-converted.ensures c.args.env.now h (c.loop-member.invariant h))
