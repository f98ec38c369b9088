use Rattle.std.proofs.Common.{refl}
use Rattle.hb_hier.proofs.GrewLemmas as hier
use Rattle.hb_step.proofs.SinceLemmas.{section_same}
use Rattle.hb_world.specs.Worlds.{background}
use Rattle.hb_instance.proofs.GrowLemmas.{grown_trans, grown_names, grown_parts}
use Rattle.hb_instance.proofs.giving.take.Goals as goal

pub returns-in_err-taken-clause-grown : goal.returns-in_err-taken-clause-grown
returns-in_err-taken-clause-grown c = grown_names (background c.args.world.now) (background c.taken.new.world) c.taken.ensures

pub returns-in_err-enter_after-clause-grown : goal.returns-in_err-enter_after-clause-grown
returns-in_err-enter_after-clause-grown c =
    grown_trans (background c.args.world.now) (background c.taken.new.world) _ (grown_names (background c.args.world.now) (background c.taken.new.world) c.taken.ensures)
    (grown_parts (background c.taken.new.world) _ refl (hier.grew_same _ _ refl) c.enter_after.ensures (section_same _))

pub returns-clause-grown : goal.returns-clause-grown
returns-clause-grown c =
    grown_trans (background c.args.world.now) (background c.taken.new.world) _ (grown_names (background c.args.world.now) (background c.taken.new.world) c.taken.ensures)
    (grown_parts (background c.taken.new.world) _ refl (hier.grew_same _ _ refl) c.enter_after.ensures (section_same _))
