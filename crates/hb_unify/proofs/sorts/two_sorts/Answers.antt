use Rattle.std.proofs.Common.{◌≡◌, ◌≢◌, ℕ, refl, rules}
use Rattle.hb_order.specs.Heirs.{IsCommonHeir, IsJoin}
use Rattle.hb_hier.specs.Hierarchy.{sets}
use Rattle.hb_equations.specs.Machine.{sorts_same, sorts_stuck, sorts_apart, sorts_join}
use Rattle.hb_unify.specs.Plain.{stuck_at}
use Rattle.hb_unify.proofs.sorts.two_sorts.Goals as goal

pub returns-then-x-y-clause-acts : goal.returns-then-x-y-clause-acts
returns-then-x-y-clause-acts c =
    let e : c.args.x.structure.0 ≡ c.args.y.structure.0 = search rules in
    rw (c.in_ok-act.ensures (stuck_at c.args.of)) (sorts_same c.requires.opens c.requires.left c.requires.right e refl)

pub returns-then-x-y-2-clause-acts : goal.returns-then-x-y-2-clause-acts
returns-then-x-y-2-clause-acts c =
    let n : c.args.x.structure.0 ≢ c.args.y.structure.0 = search rules in
    let e : c.args.x.at ≡ c.args.y.at = search rules in
    sorts_stuck c.requires.opens c.requires.left c.requires.right n e refl

pub returns-in_default-clause-acts : goal.returns-in_default-clause-acts
returns-in_default-clause-acts c =
    let n : c.args.x.structure.0 ≢ c.args.y.structure.0 = search rules in
    let e : c.args.x.at ≢ c.args.y.at = search rules in
    let a : (j : ℕ) → ¬ (IsCommonHeir (sets c.args.reads.hier.now) c.args.x.structure.0 c.args.y.structure.0 j) = search rules in
    sorts_apart c.requires.opens c.requires.left c.requires.right n e a refl

pub returns-clause-acts : goal.returns-clause-acts
returns-clause-acts c =
    let n : c.args.x.structure.0 ≢ c.args.y.structure.0 = search rules in
    let e : c.args.x.at ≢ c.args.y.at = search rules in
    let j : IsJoin (sets c.args.reads.hier.now) c.args.x.structure.0 c.args.y.structure.0 c.in-Some.join.0 = search rules in
    sorts_join c.requires.opens c.requires.left c.requires.right n e j (c.in_ok-act-2.ensures (stuck_at c.args.of)) refl
