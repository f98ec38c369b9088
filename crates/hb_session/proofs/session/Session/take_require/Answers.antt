use Rattle.std.proofs.Common.{refl, sym}
use Rattle.hb_env.specs.declared.entry.Head.TheVariants as heads
use Rattle.hb_session.proofs.GoesLemmas.{agree_none, takes_require}
use Rattle.hb_session.proofs.session.Session.take_require.Goals as goal

pub invariant_of-self-2 : goal.invariant_of-self-2
invariant_of-self-2 c = record {
  agree = agree_none c.args.self.now.theory c.args.self.now.entries.items c.push_reserved.new.self.items
      (record { head = heads.Require c.args.name.name; decls = c.new.result }) c.args.self.now.agree
      (rw (sym c.in-Ok.ensures.items) c.push_reserved.ensures.items) (rw c.new.ensures.items refl);
}

pub returns-clause-taken : goal.returns-clause-taken
returns-clause-taken c =
    takes_require _ _ c.args.name (record { head = heads.Require c.args.name.name; decls = c.new.result }) refl (rw c.new.ensures.items refl)
    (rw (sym c.in-Ok.ensures.items) c.push_reserved.ensures.items) refl refl refl refl
