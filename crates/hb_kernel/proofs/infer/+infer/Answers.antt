use Rattle.std.proofs.Common.{◌≡◌, ◌≤◌, ◌∙◌, refl, sym, ap, subst, arith}
use Rattle.hb_tree.specs.Tree.{loose, subst_at, sort, pi, lam}
use Rattle.hb_tree.proofs.Sizes.{loose_subst}
use Rattle.hb_term.specs.Meaning.{tree}
use Rattle.hb_calculus.specs.Budget.{budget}
use Rattle.hb_env.specs.Plain.{trees}
use Rattle.hb_kernel.specs.Applied.{AreLoose}
use Rattle.hb_kernel.proofs.ScopeLemmas.{field-at}
use Rattle.hb_kernel.proofs.ClosedLemmas.{projection-loose}
use Rattle.hb_calculus.specs.Inference.{Infers, infers_product, infers_function, infers_application, infers_projection}
use Rattle.hb_kernel.specs.Contexts.{types}
use Rattle.hb_kernel.specs.Answers.{FailsAt}
use Rattle.hb_kernel.proofs.InferLemmas.{leaf-fault, type-fault, sort-fault, domain-fault, binder-fault, codomain-fault, body-fault, function-fault, product-fault, argument-fault, below-fault, projected-fault, record-fault}
use Rattle.hb_kernel.proofs.infer.+infer.Goals as goal

pub application-returns-in-Err-infer-clause-fault : goal.application-returns-in-Err-infer-clause-fault
application-returns-in-Err-infer-clause-fault t c =
    argument-fault _ _ _ _ _ _ _ c.in-Err-infer.fault c.in-Ok.ensures.product (rw c.as_ref.ensures at c.in-Err-infer.ensures.fault)

pub application-returns-in-Err-ask_below-clause-fault : goal.application-returns-in-Err-ask_below-clause-fault
application-returns-in-Err-ask_below-clause-fault t c =
    below-fault _ _ _ _ _ _ c.in-Ok-infer.ty c.in-Ok.product.domain c.in-Err-ask_below.fault c.in-Ok.ensures.product
    (rw c.as_ref.ensures at c.in-Ok-infer.ensures.inferred) (c.in-Ok-infer.ensures.depth ∙ c.requires.context.counted) c.in-Err-ask_below.ensures.fault

pub application-in_scope-requires : goal.application-in_scope-requires
application-in_scope-requires t c =
    let x = c.args.x.now in
    let b = c.in-Ok.product.codomain in
    let h = c.in-Ok.ensures.in_scope in
    let k = c.requires.known.scoped.variables in
    let g : loose (subst_at b x 0) ≤ c.args.depth = loose_subst b x 0 c.args.depth (omega arith) (omega arith) (omega arith) in
    subst (λ t. loose t ≤ c.args.depth) (sym (ap tree c.in_ok-copy.ensures ∙ c.as_ref-2.ensures ∙ c.in_ok-result.ensures)) g

pub application-returns-clause-inferred : goal.application-returns-clause-inferred
application-returns-clause-inferred t c =
    let p = c.in-Ok.ensures.product in
    infers_application p.1 p.2 (rw c.as_ref.ensures at c.in-Ok-infer.ensures.inferred) c.in-Ok-ask_below.ensures.below
    (ap tree c.in_scope.ensures.term ∙ ap tree c.in_ok-copy.ensures ∙ c.as_ref-2.ensures ∙ c.in_ok-result.ensures)

pub applied-returns-in-Err-clause-fault : goal.applied-returns-in-Err-clause-fault
applied-returns-in-Err-clause-fault t c = function-fault _ _ _ _ c.in-Err.fault (rw c.as_ref.ensures at c.in-Err.ensures.fault)

pub applied-returns-clause-fault : goal.applied-returns-clause-fault
applied-returns-clause-fault t c =
    product-fault _ _ _ _ c.in-Ok.ty c.in-Err-product_of.fault (rw c.as_ref.ensures at c.in-Ok.ensures.inferred)
    (c.in-Ok.ensures.depth ∙ c.requires.context.counted) c.in-Err-product_of.ensures.fault

pub function-returns-in-Err-clause-fault : goal.function-returns-in-Err-clause-fault
function-returns-in-Err-clause-fault t c = binder-fault _ _ _ _ _ c.in-Err.fault (rw c.as_ref.ensures at c.in-Err.ensures.fault)

pub function-returns-in-Err-infer-clause-fault : goal.function-returns-in-Err-infer-clause-fault
function-returns-in-Err-infer-clause-fault t c =
    body-fault _ _ _ _ _ _ c.in-Err-infer.fault (rw c.as_ref.ensures at c.in-Ok.ensures.sort)
    (rw (c.as_ref-2.ensures, c.as_ref-3.ensures) at c.in-Err-infer.ensures.fault)

pub function-returns-clause-inferred : goal.function-returns-clause-inferred
function-returns-clause-inferred t c =
    let p = rw c.as_ref.ensures at c.in-Ok.ensures.sort in
    let q = rw (c.as_ref-2.ensures, c.as_ref-3.ensures) at c.in-Ok-infer.ensures.inferred in
    let e : tree c.in_scope.result.term ≡ pi c.args.a.now (tree c.in-Ok-infer.ty.term) =
    ap tree c.in_scope.ensures.term ∙ ap (λ x. pi x c.in_ok-new.field-0) c.in_ok-share.ensures ∙ ap (λ y. pi c.args.a.now y) (c.in_ok-new.ensures ∙ ap tree c.into_term.ensures.value) in
    subst (λ u. Infers c.args.env.now (budget c.args.limits.now) (types c.args.context.now) (lam c.args.a.now c.args.b.now) u) (sym e)
    (infers_function p.infers p.head q)

pub infer-returns-in-Sort-clause-fault : goal.infer-returns-in-Sort-clause-fault
infer-returns-in-Sort-clause-fault t c =
    rw c.in-Sort.is
    (leaf-fault c.args.env.now (budget c.args.limits.now) (types c.args.context.now) c.sort_type.result
    (λ F M k n. FailsAt F M (types c.args.context.now) (sort c.in-Sort.s) k n)
    c.sort_type.ensures.fault)

pub infer-returns-in-Pi-clause-fault : goal.infer-returns-in-Pi-clause-fault
infer-returns-in-Pi-clause-fault t c = rw c.in-Pi.is c.product.ensures.fault

pub infer-returns-in-Lam-clause-fault : goal.infer-returns-in-Lam-clause-fault
infer-returns-in-Lam-clause-fault t c = rw c.in-Lam.is c.function.ensures.fault

pub infer-returns-in-App-clause-fault : goal.infer-returns-in-App-clause-fault
infer-returns-in-App-clause-fault t c = rw c.in-App.is c.application.ensures.fault

pub infer-returns-in-Proj-clause-fault : goal.infer-returns-in-Proj-clause-fault
infer-returns-in-Proj-clause-fault t c = rw c.in-Proj.is c.projection.ensures.fault

pub product-returns-in-Err-clause-fault : goal.product-returns-in-Err-clause-fault
product-returns-in-Err-clause-fault t c = domain-fault _ _ _ _ _ c.in-Err.fault (rw c.as_ref.ensures at c.in-Err.ensures.fault)

pub product-returns-in-Err-type_sort-clause-fault : goal.product-returns-in-Err-type_sort-clause-fault
product-returns-in-Err-type_sort-clause-fault t c =
    codomain-fault _ _ _ _ _ _ c.in-Err-type_sort.fault (rw c.as_ref.ensures at c.in-Ok.ensures.sort)
    (rw (c.as_ref-2.ensures, c.as_ref-3.ensures) at c.in-Err-type_sort.ensures.fault)

pub product-returns-clause-inferred : goal.product-returns-clause-inferred
product-returns-clause-inferred t c =
    let p = rw c.as_ref.ensures at c.in-Ok.ensures.sort in
    let q = rw (c.as_ref-2.ensures, c.as_ref-3.ensures) at c.in-Ok-type_sort.ensures.sort in
    infers_product p.infers p.head q.infers q.head (ap tree c.in_scope.ensures.term ∙ ap sort c.product_sort.ensures)

pub projection-returns-in-Err-clause-fault : goal.projection-returns-in-Err-clause-fault
projection-returns-in-Err-clause-fault t c = projected-fault _ _ _ _ _ _ c.in-Err.fault (rw c.as_ref.ensures at c.in-Err.ensures.fault)

pub projection-returns-in-Err-record_of-clause-fault : goal.projection-returns-in-Err-record_of-clause-fault
projection-returns-in-Err-record_of-clause-fault t c =
    record-fault _ _ _ _ _ _ c.in-Ok.ty c.in-Err-record_of.fault (rw c.as_ref.ensures at c.in-Ok.ensures.inferred)
    (c.in-Ok.ensures.depth ∙ c.requires.context.counted) c.in-Err-record_of.ensures.fault

pub projection-in_scope-requires : goal.projection-in_scope-requires
projection-in_scope-requires t c =
    let d = c.requires.known.declared.0 in
    let R = d.0 in
    let f = field-at R.fields c.args.field d.2 in
    let e = c.in_ok-result.ensures R f.0 d.1 f.1 in
    let k = c.requires.known.scoped.variables in
    let of : loose (tree c.as_ref-2.result.now) ≤ c.args.depth = rw c.as_ref-2.ensures k in
    let qs = trees c.in-Ok-record_of.params.items in
    let a : AreLoose c.args.depth qs = subst (λ n. AreLoose n qs) c.in-Ok.ensures.depth c.in-Ok-record_of.ensures.in_scope in
    let g = projection-loose c.args.env.now c.args.rec R c.args.field f.0 (tree c.as_ref-2.result.now) qs c.args.depth c.len-count.ensures.valid.scoped d.1 f.1 (c.in-Ok-record_of.ensures.count R d.1) a of in
    subst (λ t. loose t ≤ c.args.depth) (sym (rw c.as_slice.ensures.value at e)) g

pub projection-returns-clause-inferred : goal.projection-returns-clause-inferred
projection-returns-clause-inferred t c =
    let d = c.requires.known.declared.0 in
    let R = d.0 in
    let f = field-at R.fields c.args.field d.2 in
    let e = rw (c.as_slice.ensures.value, c.as_ref-2.ensures) at (c.in_ok-result.ensures R f.0 d.1 f.1) in
    let qs = trees c.in-Ok-record_of.params.items in
    infers_projection qs d.1 (rw c.as_ref.ensures at c.in-Ok.ensures.inferred) c.in-Ok-record_of.ensures.form refl (c.in-Ok-record_of.ensures.count R d.1) f.1
    (ap tree c.in_scope.ensures.term ∙ e)

pub type_sort-returns-in-Err-clause-fault : goal.type_sort-returns-in-Err-clause-fault
type_sort-returns-in-Err-clause-fault t c = type-fault _ _ _ _ c.in-Err.fault c.in-Err.ensures.fault

pub type_sort-returns-clause-fault : goal.type_sort-returns-clause-fault
type_sort-returns-clause-fault t c =
    sort-fault _ _ _ _ c.in-Ok.ty c.in-Err-sort_of.fault c.in-Ok.ensures.inferred (c.in-Ok.ensures.depth ∙ c.requires.context.counted) c.in-Err-sort_of.ensures.fault
