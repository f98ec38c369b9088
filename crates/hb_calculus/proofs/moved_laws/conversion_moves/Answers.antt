use Rattle.hb_tree.specs.Tree.{lift, subst_at}
use Rattle.hb_calculus.specs.Conversion.{chain}
use Rattle.hb_calculus.proofs.Moved.{lift-moves, subst-moves, Convertible-moved, Below-moved, values-put}
use Rattle.hb_calculus.proofs.moved_laws.conversion_moves.Goals as goal

pub returns-clause-lifts : goal.returns-clause-lifts
returns-clause-lifts c = λ E t u n k closed h. Convertible-moved E closed (λ j x. lift x n j) (lift-moves n) k h

pub returns-clause-below_lifts : goal.returns-clause-below_lifts
returns-clause-below_lifts c = λ E t u n k closed h. Below-moved E closed (λ j x. lift x n j) (lift-moves n) k h

pub returns-clause-substitutes : goal.returns-clause-substitutes
returns-clause-substitutes c =
    λ E t u v w k closed h g.
    chain (Convertible-moved E closed (λ j x. subst_at x v j) (subst-moves v) k h) (values-put E closed u v w k g)

pub returns-clause-below_substitutes : goal.returns-clause-below_substitutes
returns-clause-below_substitutes c = λ E t u v k closed h. Below-moved E closed (λ j x. subst_at x v j) (subst-moves v) k h
