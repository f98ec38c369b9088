use Rattle.std.proofs.Common.{◌≡◌, Some, slice_get, arith, sym, ◌∙◌, ap}
use Rattle.hb_term.specs.Meaning.{tree}
use Rattle.hb_calculus.specs.Telescopes.{type_in}
use Rattle.hb_calculus.specs.Inference.{infers_constant}
use Rattle.hb_kernel.proofs.ClosedLemmas.{type-closed}
use Rattle.hb_kernel.proofs.leaf.constant_type.Goals as goal

pub in_scope-requires : goal.in_scope-requires
in_scope-requires c =
    let e : Some (tree c.in-Some.ty) ≡ type_in (slice_get c.args.env.now c.args.c.decl) c.args.c = rw c.in-Some.is at c.in_ok-ty.ensures in
    let h = type-closed c.args.env.now c.args.c (tree c.in-Some.ty) c.len-count.ensures.valid.scoped (sym e) in
    omega arith

pub returns-clause-inferred : goal.returns-clause-inferred
returns-clause-inferred c =
    let e : Some (tree c.in-Some.ty) ≡ type_in (slice_get c.args.env.now c.args.c.decl) c.args.c = rw c.in-Some.is at c.in_ok-ty.ensures in
    λ L. infers_constant (sym e ∙ ap (λ t. Some (tree t)) (sym c.in_scope.ensures.term))
