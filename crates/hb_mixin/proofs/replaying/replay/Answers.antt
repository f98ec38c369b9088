use Rattle.std.proofs.lemmas.Result.{on_ok_weaker}
use Rattle.hb_mixin.proofs.NamingLemmas.{mixin_loaded, factory_loaded}
use Rattle.hb_mixin.proofs.replaying.replay.Goals as goal

pub returns-in-Mixin-clause-hier : goal.returns-in-Mixin-clause-hier
returns-in-Mixin-clause-hier c =
    rw c.in-Mixin.is (on_ok_weaker c.load.result (λ l. mixin_loaded _ _ _ _ _ _ c.in-Mixin.items c.deref.ensures.value l) c.load.ensures.loaded)

pub returns-in-Factory-clause-hier : goal.returns-in-Factory-clause-hier
returns-in-Factory-clause-hier c =
    rw c.in-Factory.is (on_ok_weaker c.load-in-Factory.result (λ l. factory_loaded _ _ _ _ _ _ c.in-Factory.items c.deref-in-Factory.ensures.value l) c.load-in-Factory.ensures.loaded)
