use Rattle.std.proofs.lemmas.Result.{err_from_is_err_and, MatchResult-weaker}
use Rattle.hb_mixin.proofs.RefuseLemmas.{record_declared, unfit_here, passed_here, added_here}
use Rattle.hb_mixin.proofs.declaring.declare.Goals as goal

pub returns-in_err-decls-clause-refused : goal.returns-in_err-decls-clause-refused
returns-in_err-decls-clause-refused c =
    let p = err_from_is_err_and c.from_residual.result c.from_residual.ensures.1 in
    rw (p.1, p.2) (λ all. record_declared _ _ _ _ _ _ _ _ _ _ c.in_err-decls.ensures.refused)

pub returns-in_err-check_made_names-clause-refused : goal.returns-in_err-check_made_names-clause-refused
returns-in_err-check_made_names-clause-refused c =
    let p = err_from_is_err_and c.from_residual-in_err-check_made_names.result c.from_residual-in_err-check_made_names.ensures.1 in
    rw (p.1, p.2)
    (λ all. unfit_here c.record_for.new.world.names c.args.theory.now c.env.result.now c.env-2.result.now c.args.world.now.hier c.record_for.new.world.hier _
    c.args.naming.kind c.args.naming.name c.args.naming.items.now c.args.naming.shorts.now c.in_ok-decls.decls.items c.deref.result.now c.args.place _
    c.env.ensures.same c.env-2.ensures.same c.record_for.ensures.as_before.hier c.deref.ensures.value (c.in_ok-decls.ensures.made all) c.in_err-check_made_names.ensures.refused)

pub returns-in_err-check_counts-clause-refused : goal.returns-in_err-check_counts-clause-refused
returns-in_err-check_counts-clause-refused c =
    let p = err_from_is_err_and c.from_residual-in_err-check_counts.result c.from_residual-in_err-check_counts.ensures.1 in
    rw (p.1, p.2)
    (λ all. passed_here c.record_for.new.world.names c.args.theory.now c.env.result.now c.env-3.result.now c.args.world.now.hier c.record_for.new.world.hier _
    c.args.naming.kind c.args.naming.name c.args.naming.items.now c.args.naming.shorts.now c.in_ok-decls.decls.items c.deref-2.result.now c.args.place _
    c.env.ensures.same c.env-3.ensures.same c.record_for.ensures.as_before.hier c.deref-2.ensures.value (c.in_ok-decls.ensures.made all) c.in_err-check_counts.ensures.refused)

pub returns-clause-refused : goal.returns-clause-refused
returns-clause-refused c =
    MatchResult-weaker c.add.result c.add.ensures.refused (λ _ k. k)
    (λ r f all. added_here c.record_for.new.world.names c.args.theory.now c.env.result.now c.args.world.now.hier c.record_for.new.world.hier _
    c.args.naming.kind c.args.naming.name c.args.naming.items.now c.args.naming.shorts.now _ c.args.place r
    c.env.ensures.same c.record_for.ensures.as_before.hier (c.in_ok-decls.ensures.made all) f)
