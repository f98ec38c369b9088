use Rattle.std.proofs.Common.{rules, sym, ◌∙◌, ◌<◌, take, ◌++◌}
use Rattle.std.specs.Prelude.{IsTrue}
use Rattle.hb_calculus.specs.Declarations.{names, names_of, IsIn, Distinct}
use Rattle.hb_env.specs.Plain.{plain}
use Rattle.hb_env.proofs.NameLemmas.{in_left, in_right, in_neither, distinct_more}
use Rattle.hb_env.proofs.TableLemmas.{held, free}
use Rattle.hb_env.proofs.names.first_repeated.Goals as goal
use Rattle.hb_env.proofs.names.first_repeated.Goals.{then-is_some-via-then-is_some, then-is_some-via-else-is_some+then-stands_before}

pub returns-then-is_some : goal.returns-then-is_some
returns-then-is_some c E t d =
    let ns = names_of (plain c.args.decl.now) in
    let n = c.name_at-name.result.0 in
    let s = take c.loop-at.at ns in
    let old : Distinct (names E ++ s) = c.loop-at.invariant E t d in
    let l : n < 65536 = search rules in
    let inside : IsIn n (names E ++ s) =
    elim c.then-is_some.branch [
      | then-is_some-via-then-is_some w ↦ in_left n (names E) s (held E c.args.table.now n l t (rw (← c.from.ensures) (sym c.is_some.ensures ∙ w.if-is_some.true)))
      | then-is_some-via-else-is_some+then-stands_before w ↦ in_right n (names E) s (w.stands_before.ensures.0 (rw w.if-stands_before.true (search rules)))
    ] in
    record { at = c.loop-at.at; stands = c.name_at-name.ensures; repeated = inside; before = old }

pub loop-at-preserved : goal.loop-at-preserved
loop-at-preserved c E t d =
    let ns = names_of (plain c.args.decl.now) in
    let n = c.name_at-name.result.0 in
    let old : Distinct (names E ++ take c.loop-at.at ns) = c.loop-at.invariant E t d in
    let l : n < 65536 = search rules in
    let out : ¬ IsIn n (names E) = free E c.args.table.now n l t (rw (← c.from.ensures) (sym c.is_some.ensures ∙ c.if-is_some.false)) in
    let later : ¬ IsIn n (take c.loop-at.at ns) = λ p. let e : IsTrue c.stands_before.result = c.stands_before.ensures.1 p in let f = rw c.if-stands_before.false at e in absurd (cc) in
    distinct_more (names E) ns c.loop-at.at n c.name_at-name.ensures old (in_neither n (names E) (take c.loop-at.at ns) out later)
