use Rattle.std.proofs.Common.{◌∙◌, ap, List}
use Rattle.std.specs.Prelude.{is_some, option_and_then}
use Rattle.hb_tree.specs.Tree.{Tree}
use Rattle.hb_calculus.specs.Declarations.{Decl}
use Rattle.hb_calculus.specs.Contraction.{head_step}
use Rattle.hb_calculus.specs.Sequence.{IsHeadForm}
use Rattle.hb_calculus.specs.Laws.{IsFirstHeadless}
use Rattle.hb_calculus.proofs.Options.{is-value}
use Rattle.hb_calculus.proofs.Stages.{last-one, last-head, head_form-ends, head_sequence-goes_on, head_sequence-sequence, sequence-head_sequence, ordered-below}
use Rattle.hb_calculus.proofs.step_laws.form_laws.Goals as goal

to-first : (E : List Decl) (t u : Tree) → IsHeadForm E t u → IsFirstHeadless E t u
to-first E t u h =
    record {
      place = h.count;
      at = head_sequence-sequence E h.count t u h.at;
      headless = head_form-ends E t u h;
      first = λ m w l e. ap is_some (head_sequence-goes_on E h.count m t u w h.at l e).1;
    }

from-first : (E : List Decl) (t u : Tree) → IsFirstHeadless E t u → IsHeadForm E t u
from-first E t u h =
    let at = sequence-head_sequence E h.place t u (λ m w l e. is-value (head_step E w) (h.first m w l e)) h.at in
    record { count = h.place; at = at; no_more = ap (option_and_then (head_step E)) at ∙ h.headless }

pub returns-clause-first : goal.returns-clause-first
returns-clause-first c = λ E t u. (to-first E t u, from-first E t u)

pub returns-clause-normal : goal.returns-clause-normal
returns-clause-normal c = last-one

pub returns-clause-head : goal.returns-clause-head
returns-clause-head c = last-head

pub returns-clause-ordered : goal.returns-clause-ordered
returns-clause-ordered c = ordered-below
