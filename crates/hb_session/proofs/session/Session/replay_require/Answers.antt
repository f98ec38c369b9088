use Rattle.std.proofs.Common.{sym}
use Rattle.hb_session.proofs.GoesLemmas.{agree_none}
use Rattle.hb_session.proofs.session.Session.replay_require.Goals as goal

pub invariant_of-self-2 : goal.invariant_of-self-2
invariant_of-self-2 c = record {
  agree = agree_none c.args.self.now.theory c.args.self.now.entries.items c.push_reserved.new.self.items c.args.entry c.args.self.now.agree
      (rw (sym c.in-Ok.ensures.items) c.push_reserved.ensures.items) c.in-Ok-may_require.ensures;
}
