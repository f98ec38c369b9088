use Rattle.std.proofs.Common.{◌≡◌, ℕ, List, length}
use Rattle.hb_env.specs.Plain.{plains}
use Rattle.hb_generated.specs.Session.{IsPrefix}
use Rattle.hb_pack.proofs.TakenLemmas.{AllRest}
use Rattle.hb_pack.proofs.taken.taken_decls.Given as goal

abbrev pub invariant-loop-k : goal.invariant-loop-k
invariant-loop-k l = record {
  kept : IsPrefix l.fn.names l.names;
  alike : length l.made.roles.items ≡ length l.made.decls.items;
  rest : (N : List (List ℕ)) → IsPrefix l.names N → AllRest N l.env l.tables l.hier l.carriers (plains l.made.decls.items) l.k-index;
}
