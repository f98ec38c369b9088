use Rattle.std.proofs.Common.{◌+◌, ◌∙◌, arith, refl}
use Rattle.hb_tree.proofs.LiftLaws.{lift_zero, lift_lift, lift_swap}
use Rattle.hb_tree.proofs.SubstLaws.{subst_lift, lift_subst, subst_subst}
use Rattle.hb_tree.proofs.Closed.{closed_stays}
use Rattle.hb_tree.proofs.laws.lift_laws.Goals as goal

pub returns-clause-lift_by_zero : goal.returns-clause-lift_by_zero
returns-clause-lift_by_zero c = lift_zero

pub returns-clause-lifts_add : goal.returns-clause-lifts_add
returns-clause-lifts_add c = λ t m n k. lift_lift t m n k k (omega arith) (omega arith)

pub returns-clause-lifts_commute : goal.returns-clause-lifts_commute
returns-clause-lifts_commute c = λ t m n k j h. lift_swap t m n k j (j + m) h refl

pub returns-clause-lift_of_subst : goal.returns-clause-lift_of_subst
returns-clause-lift_of_subst c = λ t a n k j. lift_subst t a n k j (k + j) refl

pub returns-clause-subst_of_lift : goal.returns-clause-subst_of_lift
returns-clause-subst_of_lift c = λ t a k. subst_lift t a 0 k k (omega arith) (omega arith) ∙ lift_zero t k

pub returns-clause-substs_commute : goal.returns-clause-substs_commute
returns-clause-substs_commute c = λ t a b k j. subst_subst t a b k j (k + j) refl

pub returns-clause-closed_stay : goal.returns-clause-closed_stay
returns-clause-closed_stay c = closed_stays
