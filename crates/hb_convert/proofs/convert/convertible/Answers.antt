use Rattle.std.proofs.Common.{◌∙◌, sym, refl, ap}
use Rattle.hb_term.specs.Meaning.{tree}
use Rattle.hb_convert.proofs.YesLemmas.{convertible-same, convertible-joined}
use Rattle.hb_convert.proofs.convert.convertible.Goals as goal

pub returns-then-are_same-clause-answer : goal.returns-then-are_same-clause-answer
returns-then-are_same-clause-answer c =
    convertible-same _ _ _ (c.if-are_same.ensures.0 refl)

pub returns-then-same-clause-answer : goal.returns-then-same-clause-answer
returns-then-same-clause-answer c =
    convertible-joined _ _ _ _ _ c.in_ok-x.ensures.form c.in_ok-y.ensures.form
    (sym (ap tree c.term.ensures.value) ∙ c.if-same.ensures.0 refl ∙ ap tree c.term-2.ensures.value)

pub returns-then-found-clause-answer : goal.returns-then-found-clause-answer
returns-then-found-clause-answer c = c.in_ok-found.ensures c.if-found.true
