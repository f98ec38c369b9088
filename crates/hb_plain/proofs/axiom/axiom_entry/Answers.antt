use Rattle.std.proofs.Common.{refl}
use Rattle.std.proofs.lemmas.Result.{err_from_is_err_and}
use Rattle.hb_plain.specs.Refusing.{in_section, not_declared, not_free, not_elaborated, out_of_memory}
use Rattle.hb_plain.proofs.RefusalLemmas.{still_open, still_none}
use Rattle.hb_plain.proofs.axiom.axiom_entry.Goals as goal

pub returns-in_err-outside_section-clause-refused : goal.returns-in_err-outside_section-clause-refused
returns-in_err-outside_section-clause-refused c =
    let p = err_from_is_err_and c.from_residual.result c.from_residual.ensures.1 in
    let h = c.in_err-outside_section.ensures in
    rw (p.1, p.2) (in_section (record { place = h.refused.0; what = h.refused.1; inside = still_open c.args.world.now.section h.inside }))

pub returns-in_err-is_free-clause-refused : goal.returns-in_err-is_free-clause-refused
returns-in_err-is_free-clause-refused c =
    let p = err_from_is_err_and c.from_residual-in_err-is_free.result c.from_residual-in_err-is_free.ensures.1 in
    let none = still_none c.args.world.now.section c.in_ok-outside_section.ensures.outside in
    rw (p.1, p.2) (not_declared none (not_free c.in_err-is_free.ensures.refused))

pub returns-in_err-ty-clause-refused : goal.returns-in_err-ty-clause-refused
returns-in_err-ty-clause-refused c =
    let p = err_from_is_err_and c.from_residual-in_err-ty.result c.from_residual-in_err-ty.ensures.1 in
    let none = still_none c.args.world.now.section c.in_ok-outside_section.ensures.outside in
    rw (p.1, p.2) (not_declared none (not_elaborated c.in_ok-is_free.ensures.free c.in_err-ty.ensures.refused))

pub returns-in-Err-clause-refused : goal.returns-in-Err-clause-refused
returns-in-Err-clause-refused c =
    let none = still_none c.args.world.now.section c.in_ok-outside_section.ensures.outside in
    rw c.refused.ensures (not_declared none (out_of_memory refl))
