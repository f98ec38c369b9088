use Rattle.std.proofs.Common.{arith, ◌≡◌}
use Rattle.hb_env.proofs.ListLemmas.{field_types_map}
use Rattle.hb_env.proofs.types.product_over_fields.Goals as goal

pub returns : goal.returns
returns c =
    let e : c.loop-at.at ≡ 0 = omega arith in
    rw (field_types_map c.args.fields.now) (rw e at c.loop-at.invariant.so_far)
