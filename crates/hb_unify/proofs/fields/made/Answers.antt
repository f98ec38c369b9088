use Rattle.std.proofs.Common.{◌≡◌, true, rules, arith}
use Rattle.hb_tree.specs.Tree.{head_of, const}
use Rattle.hb_term.specs.Meaning.{tree}
use Rattle.hb_unify.proofs.FormLemmas.{made_full}
use Rattle.hb_unify.proofs.fields.made.Goals as goal

pub returns : goal.returns
returns c =
    let h : head_of (tree c.args.t.now) ≡ const c.in-Const.c = search rules in
    let m : c.in-Const.c.maker ≡ true = search rules in
    made_full c.args.env.now (tree c.args.t.now) c.in-Const.c c.in-Some.params c.in-Some.fields c.in_ok-args.args.items c.in_ok-from.field-0.items h m c.in-Some.ensures.sizes (search (rules, arith)) c.in_ok-args.ensures (search (rules, arith)) (search rules)
