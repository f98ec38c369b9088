use Rattle.std.proofs.Common.{◌≡◌, []}
use Rattle.hb_joins.specs.Changes.{IsChanged}
use Rattle.hb_joins.specs.Lists.{held_before}
use Rattle.hb_joins.proofs.holders.cut_lists.Given as goal

abbrev pub invariant-loop-m : goal.invariant-loop-m
invariant-loop-m l = IsChanged (λ m was is. is ≡ held_before l.n was) [] l.initial.lists.items l.lists.items l.m
