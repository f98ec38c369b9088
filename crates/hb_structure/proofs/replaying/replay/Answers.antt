use Rattle.std.proofs.Common.{◌≡◌, ap, ◌∙◌}
use Rattle.std.proofs.lemmas.Result.{err_from_is_err_and}
use Rattle.hb_hier.specs.Hierarchy.{brought}
use Rattle.hb_structure.specs.Refusing.{entry_not_allowed, entry_not_declared}
use Rattle.hb_structure.proofs.replaying.replay.Goals as goal

pub returns-in_err-check_set-clause-refused : goal.returns-in_err-check_set-clause-refused
returns-in_err-check_set-clause-refused c =
    let h = c.args.world.now.hier in
    let x : c.brought-set.result ≡ brought h c.in-Structure.items.items = c.brought-set.ensures ∙ ap (brought h) c.deref-2.ensures.value in
    let p = err_from_is_err_and c.from_residual-in_err-check_set.result c.from_residual-in_err-check_set.ensures.1 in
    rw (p.1, p.2, c.in-Structure.is)
    (entry_not_allowed c.in_ok-check_name.ensures.named (rw c.deref.ensures.value at c.in_ok-check_names.ensures.usable) (rw x at c.in_err-check_set.ensures.refused))

pub returns-in-Err-clause-refused : goal.returns-in-Err-clause-refused
returns-in-Err-clause-refused c =
    let h = c.args.world.now.hier in
    let x : c.brought-set.result ≡ brought h c.in-Structure.items.items = c.brought-set.ensures ∙ ap (brought h) c.deref-2.ensures.value in
    rw c.in-Structure.is
    (entry_not_declared c.in_ok-check_name.ensures.named (rw c.deref.ensures.value at c.in_ok-check_names.ensures.usable) (rw x at c.in_ok-check_set.ensures.allowed)
    (rw (c.deref-3.ensures.value, x) at c.in-Err.ensures.refused))
