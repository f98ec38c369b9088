use Rattle.std.proofs.Common.{◌≡◌, rules}
use Rattle.hb_term.specs.Meaning.{tree}
use Rattle.hb_unify.proofs.normal.normal_form.Goals as goal

pub returns-in-Err-Spent : goal.returns-in-Err-Spent
returns-in-Err-Spent c =
    let e = (rw c.in-Err-Spent.field-0-is at c.in-Err-Spent.ensures).1 in
    let s : tree c.in-Some.scoped.term ≡ tree c.args.t.now = search rules in
    rw s at e
