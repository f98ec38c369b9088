use Rattle.std.proofs.Common.{refl}
use Rattle.hb_world.proofs.EmptyLemmas.{gone_back}
use Rattle.hb_world.proofs.world.World.clear.Goals as goal

pub returns : goal.returns
returns c = rw (c.clear.ensures, gone_back c.args.self.now.hier c.undo.new.self c.undo.ensures.back, c.undo-2.ensures.cut) refl
