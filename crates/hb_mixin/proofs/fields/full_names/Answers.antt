use Rattle.std.proofs.Common.{◌≡◌, ◌+◌, arith, length}
use Rattle.std.proofs.lemmas.Result.{err_from_is_err_and}
use Rattle.hb_pack.proofs.NamingLemmas.{prefix_trans}
use Rattle.hb_mixin.specs.Fields.{AreNamesOf}
use Rattle.hb_mixin.proofs.RefuseLemmas.{names_turn, number_in_all, popped}
use Rattle.hb_mixin.proofs.fields.full_names.Goals as goal

pub returns-in_err-id-clause-refused : goal.returns-in_err-id-clause-refused
returns-in_err-id-clause-refused c =
    let p = err_from_is_err_and c.from_residual.result c.from_residual.ensures.1 in
    rw (p.1, p.2)
    (number_in_all c.field_name.new.names c.args.name.name c.args.shorts.now c.loop-short.short-index _ c.args.name.span _ c.loop-short-test.true
    c.in_err-id.ensures.refused)

pub loop-short-preserved : goal.loop-short-preserved
loop-short-preserved c =
    let kept = prefix_trans c.args.names.now c.loop-short.names c.field_name.new.names c.loop-short.invariant.0 c.field_name.ensures.kept in
    let n = popped c.loop-short.left.items c.pop.new.self.items c.in-Some.ty c.in-Some.ensures.items in
    let m = c.loop-short.invariant.1 in
    let left : length c.pop.new.self.items + (c.loop-short.short-index + 1) ≡ length c.args.types.items = omega (arith, n, m) in (
      kept,
      left,
      rw c.in-Ok.ensures.items
          (names_turn c.loop-short.names c.field_name.new.names c.args.name.name c.args.shorts.now c.loop-short.full.items c.loop-short.short-index _ (c.in_ok-id.id, c.in-Some.ty)
          c.loop-short-test.true c.field_name.ensures.kept c.in_ok-id.ensures.number c.loop-short.invariant.2),
    )
