use Rattle.std.proofs.Common.{◌≡◌, length}
use Rattle.hb_generated.specs.Session.{IsPrefix}
use Rattle.hb_pack.proofs.given.built.Given as goal

abbrev pub invariant-loop-m : goal.invariant-loop-m
invariant-loop-m l = record {
  kept : IsPrefix l.fn.names l.names;
  alike : length l.all.roles.items ≡ length l.all.decls.items;
}
