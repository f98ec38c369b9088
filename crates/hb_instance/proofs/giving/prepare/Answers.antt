use Rattle.std.proofs.Common.{subst, sym}
use Rattle.hb_world.specs.Worlds.{background}
use Rattle.hb_instance.specs.Giving.{Keeps}
use Rattle.hb_instance.proofs.GiveLemmas.{on_ok}
use Rattle.hb_instance.proofs.GrowLemmas.{grown_trans}
use Rattle.hb_instance.proofs.giving.prepare.Goals as goal

pub returns-in_err-own-clause-grown : goal.returns-in_err-own-clause-grown
returns-in_err-own-clause-grown c = c.give.ensures.grown

pub returns-in_err-taken-clause-grown : goal.returns-in_err-taken-clause-grown
returns-in_err-taken-clause-grown c = grown_trans (background c.args.world.now) (background c.give.new.world) _ c.give.ensures.grown c.take.ensures.grown

pub returns-clause-grown : goal.returns-clause-grown
returns-clause-grown c = grown_trans (background c.args.world.now) (background c.give.new.world) _ c.give.ensures.grown c.take.ensures.grown

pub returns-clause-section : goal.returns-clause-section
returns-clause-section c =
    on_ok c.joined.result _
    (subst (λ o. Keeps c.args.allowed.now.gives (background c.args.world.now).section o) (sym c.take.ensures.section) c.in_ok-own.ensures.section)
