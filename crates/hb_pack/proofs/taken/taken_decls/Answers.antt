use Rattle.hb_env.specs.Plain.{plains}
use Rattle.hb_pack.proofs.NamingLemmas.{prefix_trans}
use Rattle.hb_pack.proofs.TakenLemmas.{carriers_turn}
use Rattle.hb_pack.proofs.taken.taken_decls.Goals as goal

pub loop-k-preserved : goal.loop-k-preserved
loop-k-preserved c = record {
  kept = prefix_trans c.args.names.now c.loop-k.names c.entries_at.new.names c.loop-k.invariant.kept c.in_ok-entries_at.ensures.kept;
  alike = c.in_ok-entries_at.ensures.alike;
  rest = λ N p.
      carriers_turn N c.args.env.now c.args.tables.now c.args.hier.now c.args.carriers.now (plains c.loop-k.made.decls.items) (plains c.entries_at.new.made.decls.items) c.loop-k.k-index _ c.loop-k-test.true
      (c.in_ok-entries_at.ensures.declarations N p)
      (c.loop-k.invariant.rest N (prefix_trans c.loop-k.names c.entries_at.new.names N c.in_ok-entries_at.ensures.kept p));
}
