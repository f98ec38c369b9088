use Rattle.std.proofs.Common.{refl, ap}
use Rattle.hb_term.specs.Meaning.{tree}
use Rattle.hb_calculus.specs.Budget.{budget}
use Rattle.hb_env.specs.Plain.{plain}
use Rattle.hb_kernel.proofs.SizeLemmas.{axiom-large, type-large, body-large, closed-tree}
use Rattle.hb_kernel.proofs.size.oversized.Goals as goal

pub returns-in-Axiom : goal.returns-in-Axiom
returns-in-Axiom c =
    axiom-large (budget c.args.limits.now) (plain c.args.decl.now) c.in-Axiom.name.0 (tree c.in-Axiom.ty) (tree c.in-Axiom.ty) c.closed_large.result (ap plain c.in-Axiom.is) refl
    (closed-tree (budget c.args.limits.now) c.in-Axiom.ty c.closed_large.result c.closed_large.ensures)

pub returns-in-Some : goal.returns-in-Some
returns-in-Some c =
    let h = rw c.in-Some.is at c.in_ok-kept-in-Def.ensures in
    type-large (budget c.args.limits.now) (plain c.args.decl.now) c.in-Def.name.0 (tree c.in-Def.ty) (tree c.in-Def.body) c.in-Some.kept (ap plain c.in-Def.is) (ap tree h.0) h.1 h.2

pub returns-in-None : goal.returns-in-None
returns-in-None c =
    let h = rw c.in-None.is at c.in_ok-kept-in-Def.ensures in
    body-large (budget c.args.limits.now) (plain c.args.decl.now) c.in-Def.name.0 (tree c.in-Def.ty) (tree c.in-Def.body) c.closed_large-in-None.result (ap plain c.in-Def.is) h
    (closed-tree (budget c.args.limits.now) c.in-Def.body c.closed_large-in-None.result c.closed_large-in-None.ensures)
