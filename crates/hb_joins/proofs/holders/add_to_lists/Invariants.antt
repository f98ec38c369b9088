use Rattle.std.proofs.Common.{◌≡◌, [], length}
use Rattle.hb_joins.specs.Changes.{IsChanged}
use Rattle.hb_joins.specs.Lists.{held_after}
use Rattle.hb_joins.proofs.holders.add_to_lists.Given as goal

abbrev pub invariant-loop-m : goal.invariant-loop-m
invariant-loop-m l = (length l.lists.items ≡ 1024) × IsChanged (λ m was is. is ≡ held_after l.s l.set m was) [] l.initial.lists.items l.lists.items l.m
