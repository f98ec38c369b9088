use Rattle.std.proofs.Common.{sym, arith, rules, tests}
use Rattle.std.proofs.lemmas.List.Sums.{position_or_len_is}
use Rattle.hb_parse.specs.Marks.{is_point}
use Rattle.hb_parse.proofs.mark.point.Goals as goal

pub returns-then-byte-eq46 : goal.returns-then-byte-eq46
returns-then-byte-eq46 c =
    sym (position_or_len_is is_point c.args.text.now c.loop-i.i 0 (omega arith) c.loop-i.invariant (λ h. search (tests, rules)))

pub returns : goal.returns
returns c =
    sym (position_or_len_is is_point c.args.text.now _ 0 (omega arith) (search (tests, rules)) (λ h. absurd (omega arith)))
