use Rattle.std.proofs.Common.{◌≡◌, None, refl, rules}
use Rattle.hb_term.specs.Meaning.{tree}
use Rattle.hb_equations.specs.Forms.{sort_of_hole}
use Rattle.hb_found.specs.Plain.{setting}
use Rattle.hb_equations.specs.Machine.{by_form, on_left, on_right}
use Rattle.hb_unify.proofs.taking.sorted_act.Goals as goal

pub returns-in_default-right-clause-acts : goal.returns-in_default-right-clause-acts
returns-in_default-right-clause-acts c =
    let a : sort_of_hole (setting c.args.reads) (tree c.args.of.left.now) ≡ None = search rules in
    let b : sort_of_hole (setting c.args.reads) (tree c.args.of.right.now) ≡ None = search rules in
    by_form c.requires.opens a b c.in_ok-act.ensures refl

pub one_sort-requires-clause-sort : goal.one_sort-requires-clause-sort
one_sort-requires-clause-sort c = on_right (search rules) (search rules)

pub one_sort-requires-in_default-right-2-clause-sort : goal.one_sort-requires-in_default-right-2-clause-sort
one_sort-requires-in_default-right-2-clause-sort c = on_left (search rules) (search rules)
