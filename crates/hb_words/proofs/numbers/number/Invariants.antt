use Rattle.std.proofs.Common.{◌≤◌}
use Rattle.hb_words.proofs.NumberLemmas.{IsRead}
use Rattle.hb_words.proofs.numbers.number.Given as goal

abbrev pub invariant-loop-digit : goal.invariant-loop-digit
invariant-loop-digit l = (l.value ≤ l.most) × IsRead l.digits l.digit-index l.value
