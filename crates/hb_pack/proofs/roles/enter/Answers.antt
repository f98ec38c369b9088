use Rattle.std.proofs.Common.{refl}
use Rattle.hb_tables.proofs.GrowLemmas.{grew_same, grew_trans}
use Rattle.hb_pack.specs.Roles.{entered}
use Rattle.hb_pack.proofs.RoleLemmas.{entered_turn}
use Rattle.hb_pack.proofs.roles.enter.Goals as goal

pub loop-role-init : goal.loop-role-init
loop-role-init c = record { rest = refl; grew = grew_same c.args.tables.now c.args.tables.now refl }

pub loop-role-preserved : goal.loop-role-preserved
loop-role-preserved c = record {
  rest = entered_turn c.args.roles.now c.loop-role.role-index c.loop-role.place c.in-Some.next _ c.loop-role.tables c.enter_one.new.tables (entered c.args.at c.args.roles.now c.args.tables.now) c.loop-role-test.true
      (c.in-Some.ensures.1) c.in_ok-enter_one.ensures.entered c.loop-role.invariant.rest;
  grew = grew_trans c.args.tables.now c.loop-role.tables c.enter_one.new.tables c.loop-role.invariant.grew c.in_ok-enter_one.ensures.grew;
}
