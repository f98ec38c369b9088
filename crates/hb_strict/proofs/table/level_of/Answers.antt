use Rattle.std.proofs.Common.{◌≤◌, refl, arith}
use Rattle.hb_strict.specs.Strict.{strict_prop, strict_level}
use Rattle.hb_strict.proofs.table.level_of.Goals as goal

pub returns-in-Prop : goal.returns-in-Prop
returns-in-Prop c = λ E G. rw c.in-Prop.is (strict_prop refl)

pub returns-else-level-gt62 : goal.returns-else-level-gt62
returns-else-level-gt62 c = λ E G. let h : c.in-Level.level ≤ 62 = omega (arith, c.if-level-gt62.false) in rw c.in-Level.is (strict_level h refl)
