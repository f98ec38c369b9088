use Rattle.std.proofs.Common.{refl}
use Rattle.hb_equations.specs.Machine.{sort_stops, sort_missing, sort_found}
use Rattle.hb_unify.specs.Plain.{stuck_at}
use Rattle.hb_unify.proofs.sorts.one_sort.Goals as goal

pub returns-in-Err-clause-acts : goal.returns-in-Err-clause-acts
returns-in-Err-clause-acts c = rw c.cause.ensures (sort_stops c.requires.opens c.requires.sort c.mix-set.ensures c.in-Err.ensures.walks refl)

pub returns-in-Ok-Missing-clause-acts : goal.returns-in-Ok-Missing-clause-acts
returns-in-Ok-Missing-clause-acts c =
    rw (c.in_ok-act-in-Ok-Missing.ensures.2 (stuck_at c.args.of))
    (sort_missing c.requires.opens c.requires.sort c.mix-set.ensures (rw c.in-Ok-Missing.field-0-is at c.in-Ok-Missing.ensures.walks) c.in_ok-act-in-Ok-Missing.ensures.1)

pub returns-clause-acts : goal.returns-clause-acts
returns-clause-acts c =
    sort_found c.requires.opens c.requires.sort c.mix-set.ensures (rw c.in-Ok-Found.field-0-is at c.in-Ok-Found.ensures.walks)
    (rw c.in_ok-value-in-Ok-Found.ensures at (c.in_ok-act-in-Ok-Found.ensures (stuck_at c.args.of)))
