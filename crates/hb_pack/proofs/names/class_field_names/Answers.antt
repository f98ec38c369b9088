use Rattle.std.proofs.Common.{◌∙◌, sym, ap, codes, arith, [], ◌∷◌, length-append}
use Rattle.hb_generated.specs.Names.{between}
use Rattle.hb_generated.specs.Generating.{class_field}
use Rattle.hb_pack.proofs.NamingLemmas.{prefix_trans, field_names_turn}
use Rattle.hb_pack.proofs.names.class_field_names.Goals as goal

pub loop-m-preserved : goal.loop-m-preserved
loop-m-preserved c = record {
  count = rw c.in_ok-push.ensures.items (omega (arith, length-append c.loop-m.fields.items (c.in_ok-field.field ∷ []), c.loop-m.invariant.count));
  kept = prefix_trans c.args.names.now c.loop-m.names c.between.new.names c.loop-m.invariant.kept c.in_ok-field.ensures.kept;
  rest = λ N p.
      rw c.in_ok-push.ensures.items
      (field_names_turn (class_field N c.args.hier.now c.args.name.0) c.args.mixins.now c.loop-m.fields.items c.loop-m.m-index c.in_ok-field.field c.loop-m-test.true
      (sym (ap (λ k. between N c.args.name.0 (codes ".") k) (sym c.name_of-mixin.ensures) ∙ c.in_ok-field.ensures.number N p))
      (c.loop-m.invariant.rest N (prefix_trans c.loop-m.names c.between.new.names N c.in_ok-field.ensures.kept p)));
}
