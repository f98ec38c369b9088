use Rattle.std.proofs.Common.{◌≡◌, ◌∷◌, List, length, arith, ap, sym, subst}
use Rattle.std.specs.List.{between}
use Rattle.hb_term.specs.Meaning.{tree}
use Rattle.hb_term.specs.declared.term.Term.{Term}
use Rattle.hb_calculus.specs.Budget.{budget}
use Rattle.hb_calculus.specs.Typing.{extended}
use Rattle.hb_env.specs.Plain.{trees}
use Rattle.hb_kernel.specs.Answers.{NotCheckedAt}
use Rattle.hb_kernel.specs.Contexts.{types}
use Rattle.hb_kernel.specs.Faults.{FaultOf}
use Rattle.hb_kernel.proofs.SizeLemmas.{split-first, no-item}
use Rattle.hb_kernel.proofs.JudgeLemmas.{inner-context, inner-types, inner-known}
use Rattle.hb_kernel.proofs.judge.+check_under.Goals as goal

pub check_under-requires : goal.check_under-requires
check_under-requires t c =
    let xs = c.args.rest.now in
    let x = c.first-item.result in
    let ys = between 1 (length xs) xs in
    let G = types c.args.context.now in
    let e : xs ≡ x ∷ ys = split-first xs x (omega (arith, c.in-len1-up.len_at_least)) c.first-item.is in
    let l = ap length e in
    let f = c.decreases in
    let d = c.in_ok-under-in-len1-up.ensures in (
      omega arith,
      (inner-context c.args.env.now G c.args.depth c.in_ok-under-in-len1-up.under xs ys x e d c.requires.context c.requires.types, (inner-types c.args.env.now G xs ys x e c.requires.types, (inner-known c.args.env.now c.args.depth c.in_ok-under-in-len1-up.under xs ys x (tree c.args.t.now) e d c.requires.term, inner-known c.args.env.now c.args.depth c.in_ok-under-in-len1-up.under xs ys x (tree c.args.ty.now) e d c.requires.known))),
    )

pub returns-in-Err-clause-fault : goal.returns-in-Err-clause-fault
returns-in-Err-clause-fault t c =
    subst (λ (xs : List Term). FaultOf (NotCheckedAt c.args.env.now (budget c.args.limits.now) (extended (types c.args.context.now) (trees xs)) (tree c.args.t.now) (tree c.args.ty.now)) c.in-Err.fault)
    (sym (no-item c.args.rest.now c.in-empty.len_below))
    c.in-Err.ensures.fault

pub returns-in-Err-check_under-clause-fault : goal.returns-in-Err-check_under-clause-fault
returns-in-Err-check_under-clause-fault t c =
    let xs = c.args.rest.now in
    let x = c.first-item.result in
    let e : xs ≡ x ∷ between 1 (length xs) xs = split-first xs x (omega (arith, c.in-len1-up.len_at_least)) c.first-item.is in
    subst (λ (zs : List Term). FaultOf (NotCheckedAt c.args.env.now (budget c.args.limits.now) (extended (types c.args.context.now) (trees zs)) (tree c.args.t.now) (tree c.args.ty.now)) c.in-Err-check_under.fault) (sym e) c.in-Err-check_under.ensures.fault
