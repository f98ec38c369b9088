use Rattle.std.proofs.Common.{refl, rules}
use Rattle.hb_term.specs.Meaning.{tree}
use Rattle.hb_calculus.specs.Budget.{budget}
use Rattle.hb_calculus.specs.Sequence.{Exceeds}
use Rattle.hb_found.specs.Plain.{setting}
use Rattle.hb_equations.specs.Machine.{Fit, normal_meet, normal_differ}
use Rattle.hb_unify.proofs.ActLemmas.{if_ok, spent_first, spent_second}
use Rattle.hb_unify.proofs.normal.closed_act.Goals as goal

pub returns-in_default-clause-acts : goal.returns-in_default-clause-acts
returns-in_default-clause-acts c =
    let x : Exceeds c.args.reads.env.now (budget c.args.reads.limits.now) (tree c.args.of.left.now) = search rules in
    if_ok _ _ (spent_first (setting c.args.reads) c.args.of c.args.moves c.requires.heads c.requires.closed x) c.spent.result c.spent.ensures

pub returns-in_default-2-clause-acts : goal.returns-in_default-2-clause-acts
returns-in_default-2-clause-acts c =
    let x : ¬ Exceeds c.args.reads.env.now (budget c.args.reads.limits.now) (tree c.args.of.left.now) = search rules in
    let y : Exceeds c.args.reads.env.now (budget c.args.reads.limits.now) (tree c.args.of.right.now) = search rules in
    if_ok _ _ (spent_second (setting c.args.reads) c.args.of c.args.moves c.requires.heads c.requires.closed x y) c.spent-in_default-2.result c.spent-in_default-2.ensures

pub returns-then-fit-clause-acts : goal.returns-then-fit-clause-acts
returns-then-fit-clause-acts c =
    let a = rw c.in-Some.is at c.in_ok-x.ensures in
    let b = rw c.in-Some-2.is at c.in_ok-y.ensures in
    let f : Fit c.args.of.relation (tree c.in-Some.x) (tree c.in-Some-2.y) = search rules in
    λ H. rw c.new.ensures.items (normal_meet c.requires.heads c.requires.closed a.1 b.1 a.0 b.0 f refl)

pub returns-clause-acts : goal.returns-clause-acts
returns-clause-acts c =
    let a = rw c.in-Some.is at c.in_ok-x.ensures in
    let b = rw c.in-Some-2.is at c.in_ok-y.ensures in
    let f : ¬ Fit c.args.of.relation (tree c.in-Some.x) (tree c.in-Some-2.y) = search rules in
    λ H. normal_differ c.requires.heads c.requires.closed a.1 b.1 a.0 b.0 f refl
