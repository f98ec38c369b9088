use Rattle.std.proofs.Common.{inl, inr, map, take, ◌⊎◌}
use Rattle.hb_base.specs.declared.name_id.NameId.{NameId}
use Rattle.hb_calculus.specs.Declarations.{names, names_of, IsIn}
use Rattle.hb_env.specs.Plain.{plain, plains}
use Rattle.hb_step.specs.Naming.{IsTaken}
use Rattle.hb_step.proofs.NameLemmas.{unfit_last}
use Rattle.hb_step.proofs.naming.first_of.Goals as goal
use Rattle.hb_step.proofs.naming.first_of.Goals.{then-is_taken-via-then-is_taken, then-is_taken-via-else-is_taken+then-is_made, then-is_taken-via-else-is_taken+else-is_made+then-stands_before, then-is_taken-via-else-is_taken+else-is_made+else-stands_before+then-stand_in}

pub returns-then-is_taken : goal.returns-then-is_taken
returns-then-is_taken c =
    let made = map (λ (m : NameId). m.0) c.args.made.now in
    let n = c.name_at-name.result in
    let ns = names_of (plain c.args.decl.now) in
    let why : IsTaken c.args.env.now c.args.hier.now n ⊎ IsIn n.0 made ⊎ IsIn n.0 (take c.loop-at.at ns) ⊎ IsIn n.0 (names (plains c.args.before.now)) =
    elim c.then-is_taken.branch [
      | then-is_taken-via-then-is_taken w ↦ inl (c.is_taken.ensures.0 w.if-is_taken.true)
      | then-is_taken-via-else-is_taken+then-is_made w ↦ inr (inl (w.is_made.ensures w.if-is_made.true))
      | then-is_taken-via-else-is_taken+else-is_made+then-stands_before w ↦ inr (inr (inl (w.stands_before.ensures w.if-stands_before.true)))
      | then-is_taken-via-else-is_taken+else-is_made+else-stands_before+then-stand_in w ↦ inr (inr (inr (w.stand_in.ensures w.if-stand_in.true)))
    ] in
    unfit_last c.args.env.now c.args.hier.now made (plains c.args.before.now) (plain c.args.decl.now) c.loop-at.at n c.name_at-name.ensures why
