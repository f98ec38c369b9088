use Rattle.hb_cert.proofs.EndLemmas.{on_ok}
use Rattle.hb_cert.proofs.ends.ends.Goals as goal

pub returns-in-Axiom : goal.returns-in-Axiom
returns-in-Axiom c = rw c.in-Axiom.is c.closed.ensures

pub returns-in_ok-closed-in-Def : goal.returns-in_ok-closed-in-Def
returns-in_ok-closed-in-Def c = rw c.in-Def.is (on_ok c.body_end.result (λ h E g. (c.in_ok-closed-in-Def.ensures E g, h E g)) c.body_end.ensures)

pub returns-in_ok-before-in-Record : goal.returns-in_ok-before-in-Record
returns-in_ok-before-in-Record c =
    rw c.in-Record.is
    (on_ok c.fields_end.result
    (λ h E g. let o = rw c.deref.ensures.value at (c.in_ok-before-in-Record.ensures E g) in (o.0, rw c.deref-in-Record.ensures.value at (h E g _ o.1)))
    c.fields_end.ensures)
