use Rattle.std.proofs.Common.{◌∙◌, sym, refl}
use Rattle.hb_keys.specs.Walks.{walk_last, walk_next}
use Rattle.hb_found.proofs.asking.lacking.Goals as goal

pub returns-in-None-clause-then : goal.returns-in-None-clause-then
returns-in-None-clause-then c =
    c.requires.seen.on _ (walk_last c.requires.seen.room c.requires.seen.fits refl c.requires.lacks (sym c.in_ok-head_step.ensures ∙ c.in-None.is))

pub returns-in-Some-clause-then : goal.returns-in-Some-clause-then
returns-in-Some-clause-then c =
    (λ e w. c.requires.seen.on e (walk_next c.requires.seen.room c.requires.seen.fits refl c.requires.lacks (sym c.in_ok-head_step.ensures ∙ c.in-Some.is) w), refl)
