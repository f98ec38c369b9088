use Rattle.std.proofs.Common.{refl}
use Rattle.std.proofs.lemmas.Result.{err_from_is_err_and}
use Rattle.hb_calculus.specs.Declarations.{an_axiom}
use Rattle.hb_term.specs.Meaning.{tree}
use Rattle.hb_plain.specs.Loading.{in_section, not_loaded, not_one, not_such, not_free}
use Rattle.hb_plain.proofs.LoadingLemmas.{one_plain, not_axiom}
use Rattle.hb_plain.proofs.RefusalLemmas.{still_open, still_none, not_one_plain}
use Rattle.hb_plain.proofs.replaying.axiom_is_free.Goals as goal

pub returns-in_err-outside_section-clause-refused : goal.returns-in_err-outside_section-clause-refused
returns-in_err-outside_section-clause-refused c =
    let p = err_from_is_err_and c.from_residual.result c.from_residual.ensures.1 in
    let h = c.in_err-outside_section.ensures in
    rw (p.1, p.2) (λ L. in_section (record { place = h.refused.0; what = h.refused.1; inside = still_open c.args.world.now.section h.inside }))

pub returns-in_err-decl-clause-refused : goal.returns-in_err-decl-clause-refused
returns-in_err-decl-clause-refused c =
    let p = err_from_is_err_and c.from_residual-in_err-decl.result c.from_residual-in_err-decl.ensures.1 in
    let none = still_none c.args.world.now.section c.in_ok-outside_section.ensures.outside in
    rw (p.1, p.2) (λ L. not_loaded none (not_one (not_one_plain c.args.entry.now.decls.items _ c.in_err-decl.ensures.not_one) c.in_err-decl.ensures.refused))

pub returns-in_default : goal.returns-in_default
returns-in_default c = record {
  outside = tt;
  free = tt;
  declared = tt;
  refused =
      let none = still_none c.args.world.now.section c.in_ok-outside_section.ensures.outside in
      let d = c.in_ok-decl.decl.now in
      let one = c.in_ok-decl.ensures.one in
      λ L. not_loaded none (not_such (one_plain c.args.entry.now.decls.items d d one.0 refl) one.1 (not_axiom d c.in_default.not-Axiom) c.bad.ensures);
}

pub returns-in_err-is_free-clause-refused : goal.returns-in_err-is_free-clause-refused
returns-in_err-is_free-clause-refused c =
    let p = err_from_is_err_and c.from_residual-in_err-is_free.result c.from_residual-in_err-is_free.ensures.1 in
    let none = still_none c.args.world.now.section c.in_ok-outside_section.ensures.outside in
    rw (p.1, p.2) (λ L. not_loaded none (not_free (one_plain c.args.entry.now.decls.items _ _ c.in_ok-decl.ensures.one.0 c.in-Axiom.is) refl c.in_err-is_free.ensures.refused))

pub returns-clause-declared : goal.returns-clause-declared
returns-clause-declared c =
    let t = tree c.in-Axiom.ty in
    (an_axiom c.in-Axiom.name.0 t, one_plain c.args.entry.now.decls.items _ _ c.in_ok-decl.ensures.one.0 c.in-Axiom.is, (t, refl))
