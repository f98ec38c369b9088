use Rattle.std.proofs.Common.{◌≡◌, drop}
use Rattle.hb_tables.specs.Growing.{Grew}
use Rattle.hb_pack.specs.Roles.{entered}
use Rattle.hb_pack.proofs.roles.enter.Given as goal

abbrev pub invariant-loop-role : goal.invariant-loop-role
invariant-loop-role l = record {
  rest : entered l.place (drop l.role-index l.roles) l.tables ≡ entered l.fn.at l.roles l.fn.tables;
  grew : Grew l.fn.tables l.tables;
}
