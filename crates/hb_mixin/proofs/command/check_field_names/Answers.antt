use Rattle.std.proofs.lemmas.Result.{err_from_is_err_and}
use Rattle.hb_mixin.proofs.RefuseLemmas.{kept_turn, kept_cause}
use Rattle.hb_mixin.proofs.command.check_field_names.Goals as goal

pub loop-field-preserved : goal.loop-field-preserved
loop-field-preserved c =
    kept_turn c.args.names.now c.args.fields.now c.loop-field.field-index c.field-item.result c.loop-field-test.true c.field-item.is
    c.in_ok-not_reserved_part.ensures.free c.loop-field.invariant

pub returns-in_err-not_reserved_part-clause-refused : goal.returns-in_err-not_reserved_part-clause-refused
returns-in_err-not_reserved_part-clause-refused c =
    let p = err_from_is_err_and c.from_residual.result c.from_residual.ensures.1 in
    rw (p.1, p.2)
    (kept_cause c.args.names.now c.args.fields.now c.loop-field.field-index c.field-item.result _ c.loop-field-test.true c.field-item.is
    c.loop-field.invariant c.in_err-not_reserved_part.ensures.refused)
