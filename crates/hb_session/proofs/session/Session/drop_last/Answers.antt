use Rattle.std.proofs.Common.{rules}
use Rattle.hb_session.proofs.GoesLemmas.{agree_less}
use Rattle.hb_session.proofs.session.Session.drop_last.Goals as goal

pub invariant_of-self : goal.invariant_of-self
invariant_of-self c = record {
  agree = rw c.cut.ensures (agree_less c.args.self.now.theory c.args.self.now.entries.items c.pop.new.self.items c.in-Some.entry c.saturating_sub-kept.result c.args.self.now.agree
      c.in-Some.ensures.items (search rules));
}
