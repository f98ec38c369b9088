use Rattle.std.proofs.Common.{arith, length-append, [], ◌∷◌}
use Rattle.hb_pack.proofs.NamingLemmas.{prefix_trans}
use Rattle.hb_pack.proofs.given.built.Goals as goal

pub loop-m-preserved : goal.loop-m-preserved
loop-m-preserved c = record {
  kept = prefix_trans c.args.names.now c.loop-m.names c.made_up.new.names c.loop-m.invariant.kept c.in_ok-name.ensures.kept;
  alike = rw (c.in_ok-push-2.ensures.decls, c.in_ok-push-2.ensures.roles) (omega (arith, length-append c.loop-m.all.roles.items (c.role_at.result ∷ []), length-append c.loop-m.all.decls.items (c.in_ok-decl.decl ∷ []), c.loop-m.invariant.alike));
}
