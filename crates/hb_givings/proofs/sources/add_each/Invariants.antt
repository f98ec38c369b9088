use Rattle.std.proofs.Common.{◌≡◌, ◌&&◌, nat_lt, length, take}
use Rattle.hb_sets.specs.Set.{contains}
use Rattle.hb_givings.specs.Lookups.{Adds}
use Rattle.hb_givings.proofs.sources.add_each.Given as goal

abbrev pub invariant-loop-m : goal.invariant-loop-m
invariant-loop-m l =
    (take (length l.fn.sources.entries) l.sources.entries ≡ l.fn.sources.entries)
    × Adds l.fn.sources.entries l.carrier (λ n. nat_lt n l.m && contains l.gives n) l.at l.sources.entries
