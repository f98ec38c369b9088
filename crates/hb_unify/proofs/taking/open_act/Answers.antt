use Rattle.std.proofs.Common.{◌≡◌, Some, refl, rules}
use Rattle.hb_term.specs.Meaning.{tree}
use Rattle.hb_holes.specs.Places.{places}
use Rattle.hb_equations.specs.Forms.{hole_value}
use Rattle.hb_equations.specs.Machine.{hole_gets}
use Rattle.hb_unify.specs.Plain.{value_of}
use Rattle.hb_unify.proofs.taking.open_act.Goals as goal

pub returns-in-Some-clause-acts : goal.returns-in-Some-clause-acts
returns-in-Some-clause-acts c =
    let e : hole_value (places c.args.holes.now) c.args.of.depth (tree c.args.of.left.now) (tree c.args.of.right.now) ≡ Some (value_of c.in-Some.v) = search rules in
    hole_gets c.requires.heads c.requires.open e refl
