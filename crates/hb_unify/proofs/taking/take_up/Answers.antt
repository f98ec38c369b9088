use Rattle.std.proofs.Common.{◌≡◌, Some, None, refl, rules}
use Rattle.hb_term.specs.Meaning.{tree}
use Rattle.hb_equations.specs.Forms.{weak}
use Rattle.hb_equations.specs.Machine.{step_left, step_right, are_same}
use Rattle.hb_unify.specs.Plain.{stuck_at}
use Rattle.hb_unify.proofs.taking.take_up.Goals as goal

pub returns-in-Some-clause-acts : goal.returns-in-Some-clause-acts
returns-in-Some-clause-acts c =
    let e : weak c.args.reads.env.now (tree c.args.of.left.now) ≡ Some (tree c.in-Some.u) = search rules in
    rw (c.in_ok-act.ensures (stuck_at c.args.of), c.in_ok-copy.ensures) (step_left e refl)

pub returns-in-Some-2-clause-acts : goal.returns-in-Some-2-clause-acts
returns-in-Some-2-clause-acts c =
    let n : weak c.args.reads.env.now (tree c.args.of.left.now) ≡ None = search rules in
    let e : weak c.args.reads.env.now (tree c.args.of.right.now) ≡ Some (tree c.in-Some-2.u) = search rules in
    rw (c.in_ok-act-2.ensures (stuck_at c.args.of), c.in_ok-copy-2.ensures) (step_right n e refl)

pub returns-then-same-clause-acts : goal.returns-then-same-clause-acts
returns-then-same-clause-acts c =
    let n : weak c.args.reads.env.now (tree c.args.of.left.now) ≡ None = search rules in
    let m : weak c.args.reads.env.now (tree c.args.of.right.now) ≡ None = search rules in
    let e : tree c.args.of.left.now ≡ tree c.args.of.right.now = search rules in
    rw c.new.ensures.items (are_same n m e refl)
