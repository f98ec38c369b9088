use Rattle.hb_plain.specs.Refusing.{not_declared, not_added}
use Rattle.hb_plain.proofs.RefusalLemmas.{still_none}
use Rattle.hb_plain.proofs.axiom.axiom.Goals as goal

pub returns-in-Err-declare-clause-refused : goal.returns-in-Err-declare-clause-refused
returns-in-Err-declare-clause-refused c =
    let none = still_none c.args.world.now.section c.in-Ok.ensures.outside in
    let d = c.in-Ok.ensures.declared in
    not_declared none (not_added c.in-Ok.ensures.free d.2 (rw d.1 at c.in-Err-declare.ensures.refused))

pub returns-in-Ok-declare-clause-declared : goal.returns-in-Ok-declare-clause-declared
returns-in-Ok-declare-clause-declared c =
    let d = c.in-Ok.ensures.declared in
    record { free = c.in-Ok.ensures.free; declaration = d.0; is_such = d.2; added = rw (← d.1) c.in-Ok-declare.ensures.added }
