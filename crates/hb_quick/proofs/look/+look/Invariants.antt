use Rattle.std.proofs.Common.{ℕ, ◌+◌, ◌*◌}
use Rattle.hb_calculus.specs.Conversion.{Convertible}
use Rattle.hb_quick.specs.Looks.{AreReached, AreProjections}
use Rattle.hb_quick.proofs.look.+look.Given as goal

-- a pair looks at its parts one level further down
abbrev pub decreases-look : goal.decreases-look
decreases-look l = 4 * l.levels

abbrev pub decreases-alike : goal.decreases-alike
decreases-alike l = 4 * l.levels + 1

abbrev pub decreases-has_projections : goal.decreases-has_projections
decreases-has_projections l = 4 * l.levels + 1

abbrev pub decreases-is_eta_form : goal.decreases-is_eta_form
decreases-is_eta_form l = 4 * l.levels + 2

abbrev pub decreases-alike_by_eta : goal.decreases-alike_by_eta
decreases-alike_by_eta l = 4 * l.levels + 3

abbrev pub invariant-look-loop-round : goal.invariant-look-loop-round
invariant-look-loop-round l = AreReached l.fn.env l.fn.a l.fn.b (l.x, l.y)

abbrev pub invariant-has_projections-loop-field : goal.invariant-has_projections-loop-field
invariant-has_projections-loop-field l =
    AreProjections l.fn.env l.fn.rec l.fn.of l.field l.now → AreProjections l.fn.env l.fn.rec l.fn.of l.fn.count l.fn.made

abbrev pub decreases-has_projections-loop-field : goal.decreases-has_projections-loop-field
decreases-has_projections-loop-field l = l.field
