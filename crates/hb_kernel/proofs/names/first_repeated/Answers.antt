use Rattle.std.proofs.Common.{rules, take, ◌++◌}
use Rattle.std.specs.Prelude.{IsTrue}
use Rattle.hb_calculus.specs.Declarations.{names, names_of, IsIn}
use Rattle.hb_env.specs.Plain.{plain}
use Rattle.hb_env.proofs.NameLemmas.{in_left, in_right, in_neither, distinct_more}
use Rattle.hb_kernel.proofs.names.first_repeated.Goals as goal
use Rattle.hb_kernel.proofs.names.first_repeated.Goals.{then-is_declared-via-then-is_declared, then-is_declared-via-else-is_declared+then-stands_before}

pub returns-then-is_declared : goal.returns-then-is_declared
returns-then-is_declared c =
    let E = c.args.env.now in
    let ns = names_of (plain c.args.decl.now) in
    let n = c.name_at-name.result.0 in
    let s = take c.loop-at.at ns in
    let inside : IsIn n (names E ++ s) =
    elim c.then-is_declared.branch [
      | then-is_declared-via-then-is_declared w ↦ in_left n (names E) s (c.is_declared.ensures.0 (rw w.if-is_declared.true (search rules)))
      | then-is_declared-via-else-is_declared+then-stands_before w ↦ in_right n (names E) s (w.stands_before.ensures.0 (rw w.if-stands_before.true (search rules)))
    ] in
    record { at = c.loop-at.at; stands = c.name_at-name.ensures; repeated = inside; before = c.loop-at.invariant }

pub loop-at-preserved : goal.loop-at-preserved
loop-at-preserved c =
    let E = c.args.env.now in
    let ns = names_of (plain c.args.decl.now) in
    let n = c.name_at-name.result.0 in
    let out : ¬ IsIn n (names E) = λ p. let e : IsTrue c.is_declared.result = c.is_declared.ensures.1 p in let f = rw c.if-is_declared.false at e in absurd (cc) in
    let later : ¬ IsIn n (take c.loop-at.at ns) = λ p. let e : IsTrue c.stands_before.result = c.stands_before.ensures.1 p in let f = rw c.if-stands_before.false at e in absurd (cc) in
    distinct_more (names E) ns c.loop-at.at n c.name_at-name.ensures c.loop-at.invariant (in_neither n (names E) (take c.loop-at.at ns) out later)
