use Rattle.std.proofs.Common.{arith, sym, ◌∙◌}
use Rattle.hb_hier.proofs.PlaceLemmas.{first-provision, no-provision}
use Rattle.hb_hier.proofs.sets.provision.Goals as goal

pub returns-then-is_ending_of : goal.returns-then-is_ending_of
returns-then-is_ending_of c =
    c.provided_by.ensures
    ∙ sym (first-provision c.args.endings.now.items c.args.f.0 c.loop-at.at (omega arith) (sym c.if-is_ending_of.ensures) c.loop-at.invariant)

pub returns : goal.returns
returns c =
    c.empty.ensures ∙ sym (no-provision c.args.endings.now.items c.args.f.0 c.loop-at.at (omega arith) (omega arith) c.loop-at.invariant)
