use Rattle.std.proofs.Common.{◌≡◌, ◌∙◌, ap, sym, refl, subst, inr, length}
use Rattle.std.proofs.lemmas.List.{length-map}
use Rattle.std.proofs.lemmas.Result.{err_from_is_err_and}
use Rattle.hb_mixin.specs.Fields.{AreNamesOf}
use Rattle.hb_mixin.proofs.WrittenLemmas.{declared_refused}
use Rattle.hb_mixin.proofs.command.declare_written.Goals as goal

pub returns-in_err-decls-clause-refused : goal.returns-in_err-decls-clause-refused
returns-in_err-decls-clause-refused c =
    let p = err_from_is_err_and c.from_residual-in_err-decls.result c.from_residual-in_err-decls.ensures.1 in
    let shorts = c.deref-2.ensures.value ∙ c.in-Ok-short_names.ensures in
    let count : length c.in_ok-types.types.items ≡ length c.deref-2.result.now = c.in_ok-types.ensures.count ∙ sym (ap length shorts ∙ length-map _ _) in
    let named = subst (λ l. AreNamesOf c.full_names.new.names c.args.written.name.name l c.in_ok-fields.fields.items) (c.deref-2.ensures.value ∙ sym c.deref-4.ensures.value) (c.in_ok-fields.ensures.named count) in
    rw (p.1, p.2)
    (inr (declared_refused _ _ _ _ _ _ _ _ _ _ _ _ _ refl (c.deref-3.ensures.value ∙ c.in-Ok.ensures) (c.deref-4.ensures.value ∙ c.in-Ok-short_names.ensures) (c.in_err-decls.ensures.refused named)))
