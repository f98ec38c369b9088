use Rattle.std.proofs.Common.{ℕ, ◌+◌, ◌*◌, length}
use Rattle.hb_elab.proofs.cycle.+elab.Given as goal

abbrev pub decreases-application : goal.decreases-application
decreases-application l = l.left * 16 + 3

abbrev pub decreases-applied : goal.decreases-applied
decreases-applied l = l.left * 16 + 2

abbrev pub decreases-arrow : goal.decreases-arrow
decreases-arrow l = l.left * 16 + 3

abbrev pub decreases-as_type : goal.decreases-as_type
decreases-as_type l = l.left * 16 + 2

abbrev pub decreases-bound : goal.decreases-bound
decreases-bound l = l.left * 16 + 6

abbrev pub decreases-cast : goal.decreases-cast
decreases-cast l = l.left * 16 + 3

abbrev pub decreases-domain_of : goal.decreases-domain_of
decreases-domain_of l = l.left * 16 + 3

abbrev pub decreases-elaborate : goal.decreases-elaborate
decreases-elaborate l = l.left * 16 + 0

abbrev pub decreases-extended : goal.decreases-extended
decreases-extended l = l.left * 16 + 1

abbrev pub decreases-first_domain : goal.decreases-first_domain
decreases-first_domain l = l.left * 16 + 4

abbrev pub decreases-function : goal.decreases-function
decreases-function l = l.left * 16 + 8

abbrev pub decreases-opened : goal.decreases-opened
decreases-opened l = l.left * 16 + 7

abbrev pub decreases-product : goal.decreases-product
decreases-product l = l.left * 16 + 5

abbrev pub decreases-projection : goal.decreases-projection
decreases-projection l = l.left * 16 + 1

abbrev pub decreases-rule : goal.decreases-rule
decreases-rule l = l.left * 16 + 9

abbrev pub decreases-step_of : goal.decreases-step_of
decreases-step_of l = l.left * 16 + 5

abbrev pub decreases-type_at : goal.decreases-type_at
decreases-type_at l = l.left * 16 + 1

abbrev pub decreases-wanted_domain : goal.decreases-wanted_domain
decreases-wanted_domain l = l.left * 16 + 3

abbrev pub decreases-as_type-loop-next : goal.decreases-as_type-loop-next
decreases-as_type-loop-next l = length l.outer.items

abbrev pub decreases-projection-loop-span : goal.decreases-projection-loop-span
decreases-projection-loop-span l = length l.outer.items
