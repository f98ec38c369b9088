use Rattle.std.proofs.Common.{◌≡◌, map, take, Some}
use Rattle.hb_term.specs.Meaning.{tree}
use Rattle.hb_equations.specs.Forms as forms
use Rattle.hb_unify.specs.Plain.{goals}
use Rattle.hb_unify.proofs.parts.pairs.Given as goal

abbrev pub invariant-loop-at : goal.invariant-loop-at
invariant-loop-at l = forms.pairs l.depth (map tree (take l.at l.xs)) (map tree (take l.at l.ys)) ≡ Some (goals l.out.items)
