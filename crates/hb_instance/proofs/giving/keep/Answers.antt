use Rattle.std.proofs.Common.{refl, subst, OnOk}
use Rattle.std.specs.Option.{option_map}
use Rattle.hb_tables.proofs.GrowLemmas as tables
use Rattle.hb_step.proofs.SinceLemmas.{section_same}
use Rattle.hb_step.specs.Marks.{SectionGrew}
use Rattle.hb_world.specs.Worlds.{background, opened}
use Rattle.hb_instance.specs.Giving.{Keeps}
use Rattle.hb_instance.proofs.GrowLemmas.{grown_parts}
use Rattle.hb_instance.proofs.giving.keep.Goals as goal

pub returns-in_err-give_constant-clause-grown : goal.returns-in_err-give_constant-clause-grown
returns-in_err-give_constant-clause-grown c = grown_parts (background c.args.world.now) _ refl c.give_constant.ensures.grew (tables.grew_same _ _ refl) (section_same _)

pub returns-in_err-enter_at-clause-grown : goal.returns-in_err-enter_at-clause-grown
returns-in_err-enter_at-clause-grown c = grown_parts (background c.args.world.now) _ refl c.give_constant.ensures.grew c.enter_at.ensures (section_same _)

pub returns-clause-grown : goal.returns-clause-grown
returns-clause-grown c =
    grown_parts (background c.args.world.now) _ refl c.give_constant.ensures.grew c.enter_at.ensures
    (subst (λ o. SectionGrew (option_map opened o) (option_map opened c.grown_section-section.result.0)) c.replace-open.ensures.value c.grown_section-section.ensures.grew)

pub returns-clause-section : goal.returns-clause-section
returns-clause-section c =
    subst (λ o. OnOk c.grown_section-section.result.1 (Keeps c.args.allowed.now.gives (option_map opened o) (option_map opened c.grown_section-section.result.0)))
    c.replace-open.ensures.value c.grown_section-section.ensures.kept
