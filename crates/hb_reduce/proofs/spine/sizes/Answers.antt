use Rattle.std.proofs.Common.{arith}
use Rattle.hb_reduce.proofs.EnvLemmas.{record-sizes}
use Rattle.hb_reduce.proofs.spine.sizes.Goals as goal

pub returns-in-Some-Record-clause-sizes : goal.returns-in-Some-Record-clause-sizes
returns-in-Some-Record-clause-sizes c =
    let p = c.in-Some-Record.params.ok in
    let q = c.in-Some-Record.fields.ok in
    record-sizes _ _ _ _ _ _ _ _ _ c.in-Some-Record.ensures c.in-Some-Record.field-0-is
    (omega (arith, c.len.ensures)) (omega (arith, c.len-in-Some-Record.ensures))
