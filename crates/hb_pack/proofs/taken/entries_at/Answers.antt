use Rattle.std.proofs.Common.{arith}
use Rattle.hb_env.specs.Plain.{plains}
use Rattle.hb_pack.specs.Packing.{plain_or_none}
use Rattle.hb_pack.proofs.NamingLemmas.{prefix_trans}
use Rattle.hb_pack.proofs.TakenLemmas.{entries_turn}
use Rattle.hb_pack.proofs.taken.entries_at.Goals as goal

pub loop-t-preserved : goal.loop-t-preserved
loop-t-preserved c = record {
  kept = prefix_trans c.args.names.now c.loop-t.names c.entry_of.new.names c.loop-t.invariant.kept c.in_ok-decl.ensures.kept;
  alike = c.in_ok-push_some.ensures.alike;
  rest = λ N p.
      rw c.in_ok-push_some.ensures.decls
      (entries_turn N c.args.env.now c.args.tables.now c.args.hier.now c.args.carrier (plains c.args.made.now.decls.items) (plains c.loop-t.made.decls.items) c.loop-t.t (plain_or_none c.in_ok-decl.decl)
      (omega (arith, c.loop-t-test.true, c.structures-t-end.ensures.count)) (c.in_ok-decl.ensures.entry N p)
      (c.loop-t.invariant.rest N (prefix_trans c.loop-t.names c.entry_of.new.names N c.in_ok-decl.ensures.kept p)));
}
