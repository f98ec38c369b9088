use Rattle.hb_calculus.specs.Conversion.{equal}
use Rattle.std.proofs.Common.{refl}
use Rattle.hb_convert.proofs.YesLemmas.{below-same, below-joined}
use Rattle.hb_convert.proofs.convert.below.Goals as goal

pub returns-then-are_same-clause-answer : goal.returns-then-are_same-clause-answer
returns-then-are_same-clause-answer c =
    below-same _ _ _ (c.if-are_same.ensures.0 refl)

pub returns-then-ordered-clause-answer : goal.returns-then-ordered-clause-answer
returns-then-ordered-clause-answer c =
    below-joined _ _ _ _ _ c.in_ok-x.ensures.form c.in_ok-y.ensures.form
    (rw (c.term.ensures.value, c.term-2.ensures.value) at c.if-ordered.ensures.0 refl)

pub returns-then-found-clause-answer : goal.returns-then-found-clause-answer
returns-then-found-clause-answer c = equal (c.in_ok-found.ensures c.if-found.true)
