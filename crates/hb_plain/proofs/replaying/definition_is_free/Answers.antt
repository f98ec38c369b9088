use Rattle.std.proofs.Common.{refl, map}
use Rattle.std.specs.Prelude.{IsTrue}
use Rattle.std.specs.Option.{option_map}
use Rattle.std.proofs.lemmas.Result.{err_from_is_err_and}
use Rattle.hb_calculus.specs.Declarations.{a_definition}
use Rattle.hb_term.specs.Meaning.{tree}
use Rattle.hb_step.specs.Closing.{IsClosedOver}
use Rattle.hb_world.specs.Worlds.{opened}
use Rattle.hb_plain.specs.Declaring.{IsClosedIn}
use Rattle.hb_plain.specs.Loading.{not_one, not_such, not_free}
use Rattle.hb_plain.proofs.LoadingLemmas.{one_plain, not_definition, not_closed, closed_none}
use Rattle.hb_plain.proofs.RefusalLemmas.{not_one_plain}
use Rattle.hb_plain.proofs.replaying.definition_is_free.Goals as goal
use Rattle.hb_plain.proofs.replaying.definition_is_free.Goals.{in-Some+else-not-is_closed_over, in_default-section}

pub returns-in_err-decl-clause-refused : goal.returns-in_err-decl-clause-refused
returns-in_err-decl-clause-refused c =
    let p = err_from_is_err_and c.from_residual.result c.from_residual.ensures.1 in
    rw (p.1, p.2) (λ L. not_one (not_one_plain c.args.entry.now.decls.items _ c.in_err-decl.ensures.not_one) c.in_err-decl.ensures.refused)

pub returns-in_default : goal.returns-in_default
returns-in_default c = record {
  free = tt;
  declared = tt;
  refused =
      let o = option_map opened c.args.world.now.section in
      let d = c.in_ok-decl.decl.now in
      let one = c.in_ok-decl.ensures.one in
      λ L. not_such (one_plain c.args.entry.now.decls.items d d one.0 refl) one.1 (not_definition o d c.in_default.not-Def) c.bad.ensures;
}

pub returns-in_err-is_free-clause-refused : goal.returns-in_err-is_free-clause-refused
returns-in_err-is_free-clause-refused c =
    let p = err_from_is_err_and c.from_residual-in_err-is_free.result c.from_residual-in_err-is_free.ensures.1 in
    rw (p.1, p.2) (λ L. not_free (one_plain c.args.entry.now.decls.items _ _ c.in_ok-decl.ensures.one.0 c.in-Def.is) refl c.in_err-is_free.ensures.refused)

pub returns-then-not-is_closed_over-clause-refused : goal.returns-then-not-is_closed_over-clause-refused
returns-then-not-is_closed_over-clause-refused c =
    let s = c.in-Some.section in
    let t = tree c.in-Def.ty in
    let b = tree c.in-Def.body in
    let one = c.in_ok-decl.ensures.one in
    let not : ¬ IsClosedOver (map tree s.context.items) t b = λ q.
    let e : IsTrue c.is_closed_over.result = c.is_closed_over.ensures.1 (rw c.deref.ensures.value q) in
    let f = rw c.if-not-is_closed_over.true at e in
    absurd (cc) in
    λ L. not_such
    (one_plain c.args.entry.now.decls.items _ _ one.0 c.in-Def.is)
    one.1
    (not_closed c.args.world.now.section s c.in-Def.name t b c.in-Some.is not)
    c.bad-then-not-is_closed_over.ensures

pub returns-clause-declared : goal.returns-clause-declared
returns-clause-declared c =
    let o = c.args.world.now.section in
    let t = tree c.in-Def.ty in
    let b = tree c.in-Def.body in
    let closed : IsClosedIn (option_map opened o) t b =
    elim c.match-world.branch [
      | in-Some+else-not-is_closed_over w ↦ rw w.in-Some.is (rw w.deref.ensures.value at w.is_closed_over.ensures.0 w.if-not-is_closed_over.false)
      | in_default-section w ↦ closed_none o t b w.in_default-section.not-Some
    ] in
    (a_definition c.in-Def.name.0 t b, one_plain c.args.entry.now.decls.items _ _ c.in_ok-decl.ensures.one.0 c.in-Def.is, (t, b, refl, closed))
