use Rattle.std.proofs.Common.{subst}
use Rattle.hb_world.specs.Worlds.{background}
use Rattle.hb_instance.specs.Giving.{Keeps}
use Rattle.hb_instance.proofs.GrowLemmas.{grown_trans, grown_names}
use Rattle.hb_instance.proofs.giving.give.Goals as goal

pub returns-in_err-own-clause-grown : goal.returns-in_err-own-clause-grown
returns-in_err-own-clause-grown c = grown_names (background c.args.world.now) (background c.given.new.world) c.given.ensures

pub returns-in_err-keep-clause-grown : goal.returns-in_err-keep-clause-grown
returns-in_err-keep-clause-grown c =
    grown_trans (background c.args.world.now) (background c.given.new.world) _ (grown_names (background c.args.world.now) (background c.given.new.world) c.given.ensures) c.keep.ensures.grown

pub returns-clause-grown : goal.returns-clause-grown
returns-clause-grown c =
    grown_trans (background c.args.world.now) (background c.given.new.world) _ (grown_names (background c.args.world.now) (background c.given.new.world) c.given.ensures) c.keep.ensures.grown

pub returns-clause-section : goal.returns-clause-section
returns-clause-section c =
    subst (λ o. Keeps c.args.allowed.now.gives o (background c.keep.new.world).section) c.given.ensures.section c.in_ok-keep.ensures.section
