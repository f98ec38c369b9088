use Rattle.std.proofs.Common.{◌≡◌, ℕ, [], length}
use Rattle.hb_joins.specs.Lists.{held}
use Rattle.hb_joins.proofs.holders.Holders.new.Given as goal

abbrev pub invariant-loop : goal.invariant-loop
invariant-loop l = (length l.lists.items ≡ l.counter) × ((m : ℕ) → held l.lists.items m ≡ [])
