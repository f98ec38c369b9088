use Rattle.std.proofs.Common.{ℕ, ◌+◌, ◌*◌, length}
use Rattle.hb_sentences.proofs.rebuild.+rebuild.Given as goal

abbrev pub decreases-all_binders : goal.decreases-all_binders
decreases-all_binders l = l.left * 16 + 7

abbrev pub decreases-bound : goal.decreases-bound
decreases-bound l = l.left * 16 + 8

abbrev pub decreases-core : goal.decreases-core
decreases-core l = l.left * 16 + 9

abbrev pub decreases-expression : goal.decreases-expression
decreases-expression l = l.left * 16 + 8

abbrev pub decreases-one_binder : goal.decreases-one_binder
decreases-one_binder l = l.left * 16 + 6

abbrev pub decreases-operation : goal.decreases-operation
decreases-operation l = l.left * 16 + 7

abbrev pub decreases-term : goal.decreases-term
decreases-term l = l.left * 16 + 0

abbrev pub decreases-wrapped : goal.decreases-wrapped
decreases-wrapped l = l.left * 16 + 10

abbrev pub decreases-term-loop-next : goal.decreases-term-loop-next
decreases-term-loop-next l = length l.outer.items
