use Rattle.std.proofs.Common.{◌≡◌, ℕ, List, length}
use Rattle.hb_env.specs.Plain.{plains}
use Rattle.hb_generated.specs.Session.{IsPrefix}
use Rattle.hb_pack.proofs.TakenLemmas.{IsRest}
use Rattle.hb_pack.proofs.taken.entries_at.Given as goal

abbrev pub invariant-loop-t : goal.invariant-loop-t
invariant-loop-t l = record {
  kept : IsPrefix l.fn.names l.names;
  alike : length l.made.roles.items ≡ length l.made.decls.items;
  rest : (N : List (List ℕ)) → IsPrefix l.names N → IsRest N l.env l.tables l.hier l.carrier (plains l.fn.made.decls.items) (plains l.made.decls.items) l.t;
}
