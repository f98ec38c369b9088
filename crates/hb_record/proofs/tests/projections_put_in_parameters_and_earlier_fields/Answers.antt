use Rattle.std.proofs.Common.{rules, arith, ◌≡◌, refl, [], ◌∷◌}
use Rattle.hb_tree.specs.Tree.{sort, rel, app}
use Rattle.hb_tree.specs.declared.leaves.Sort.TheVariants.{Level}
use Rattle.hb_calculus.specs.Declarations.{a_record}
use Rattle.hb_record.proofs.tests.projections_put_in_parameters_and_earlier_fields.Goals as goal

pub maker_type-requires : goal.maker_type-requires
maker_type-requires g c =
    let e : c.in_ok-env.env ≡ a_record 0 1 (sort (Level 0) ∷ []) 0 ((2, rel 0) ∷ (3, app (app (rel 1) (rel 0)) (rel 0)) ∷ []) ∷ [] = search rules in
    rw e (record { params = sort (Level 0) ∷ []; level = 0; fields = rel 0 ∷ app (app (rel 1) (rel 0)) (rel 0) ∷ [] }, refl)

pub projection_type-requires : goal.projection_type-requires
projection_type-requires g c =
    let e : c.in_ok-env.env ≡ a_record 0 1 (sort (Level 0) ∷ []) 0 ((2, rel 0) ∷ (3, app (app (rel 1) (rel 0)) (rel 0)) ∷ []) ∷ [] = search rules in
    rw e (record { params = sort (Level 0) ∷ []; level = 0; fields = rel 0 ∷ app (app (rel 1) (rel 0)) (rel 0) ∷ [] }, refl, omega arith)

pub projection_type-requires-2 : goal.projection_type-requires-2
projection_type-requires-2 g c =
    let e : c.in_ok-env.env ≡ a_record 0 1 (sort (Level 0) ∷ []) 0 ((2, rel 0) ∷ (3, app (app (rel 1) (rel 0)) (rel 0)) ∷ []) ∷ [] = search rules in
    rw e (record { params = sort (Level 0) ∷ []; level = 0; fields = rel 0 ∷ app (app (rel 1) (rel 0)) (rel 0) ∷ [] }, refl, omega arith)
