use Rattle.std.proofs.Common.{◌+◌, arith, sym, ◌∙◌, ap}
use Rattle.hb_tree.specs.Tree.{loose}
use Rattle.hb_tree.proofs.Sizes.{loose_lift}
use Rattle.hb_term.specs.Meaning.{tree}
use Rattle.hb_calculus.specs.Inference.{infers_variable}
use Rattle.hb_kernel.specs.Contexts.{types}
use Rattle.hb_kernel.proofs.ScopeLemmas.{is-within, stacked-at}
use Rattle.hb_kernel.proofs.leaf.variable_type.Goals as goal

pub in_scope-requires : goal.in_scope-requires
in_scope-requires c =
    let t = tree c.in-Some.ty.now in
    let h = stacked-at (types c.args.context.now) c.args.v t c.requires.context.stacked (sym c.in-Some.ensures) in
    let g = loose_lift t (c.args.v + 1) 0 (loose t) (omega arith) in
    rw c.in_ok-lifted-in-Some.ensures (let n = c.requires.context.counted in omega arith)

pub unreachable-requires : goal.unreachable-requires
unreachable-requires c =
    let n = c.requires.context.counted in
    let b = c.requires.bound in
    is-within (types c.args.context.now) c.args.v (omega arith) (sym c.in-None.ensures)

pub returns-clause-inferred : goal.returns-clause-inferred
returns-clause-inferred c = λ E L. infers_variable (sym c.in-Some.ensures) (ap tree c.in_scope.ensures.term ∙ c.in_ok-lifted-in-Some.ensures)
