use Rattle.hb_plain.specs.Refusing.{not_added}
use Rattle.hb_plain.proofs.definition.definition.Goals as goal

pub returns-in-Err-define-clause-refused : goal.returns-in-Err-define-clause-refused
returns-in-Err-define-clause-refused c =
    let d = c.in-Ok.ensures.declared in
    not_added c.in-Ok.ensures.free d.2 (rw d.1 at c.in-Err-define.ensures.refused)

pub returns-in-Ok-define-clause-declared : goal.returns-in-Ok-define-clause-declared
returns-in-Ok-define-clause-declared c =
    let d = c.in-Ok.ensures.declared in
    record { free = c.in-Ok.ensures.free; declaration = d.0; is_such = d.2; added = rw (← d.1) c.in-Ok-define.ensures.added }
