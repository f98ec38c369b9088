use Rattle.std.proofs.Common.{◌≡◌, length}
use Rattle.hb_env.proofs.KeptLemmas.{AllNone}
use Rattle.hb_env.proofs.env.Env.new.Given as goal

abbrev pub invariant-loop-i : goal.invariant-loop-i
invariant-loop-i l = record {
  long : length l.table.items ≡ l._i;
  empty : AllNone l.table.items;
}
