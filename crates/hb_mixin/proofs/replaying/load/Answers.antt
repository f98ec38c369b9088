use Rattle.std.proofs.Common.{subst, sym}
use Rattle.std.proofs.lemmas.Result.{on_ok_weaker}
use Rattle.hb_mixin.specs.Fields.{AreNamesOf}
use Rattle.hb_mixin.proofs.NamingLemmas.{names_from, loaded_from}
use Rattle.hb_mixin.proofs.replaying.load.Goals as goal

pub returns-clause-loaded : goal.returns-clause-loaded
returns-clause-loaded c =
    let named = names_from _ _ _ c.in-Ok.fields.items c.in_ok-record.record.fields.now c.in-Ok.ensures c.in_ok-shorts.ensures.named in
    let same = subst (λ l. AreNamesOf c.check_record.new.world.names c.in_ok-record.record.name l c.in-Ok.fields.items) (sym c.deref.ensures.value) named in
    on_ok_weaker c.declare_loaded.result (λ f. loaded_from _ _ _ _ _ _ _ _ c.check_record.ensures.as_before.hier (f same)) c.declare_loaded.ensures.loaded
