use Rattle.std.proofs.Common.{◌≤◌, ◌<◌, arith, rules}
use Rattle.hb_keys.specs.Walks.{walk_moves}
use Rattle.hb_found.specs.Plain.{setting}
use Rattle.hb_found.proofs.FrameLemmas.{spent_at}
use Rattle.hb_found.proofs.looking.look.Goals as goal

pub returns-then-moves-steps : goal.returns-then-moves-steps
returns-then-moves-steps c =
    let h : c.args.reads.limits.now.steps ≤ c.args.walker.now.moves = omega (arith, c.steps_of-steps.ensures, c.if-moves-steps.true) in walk_moves h

pub returns-then-is_large : goal.returns-then-is_large
returns-then-is_large c =
    let h : c.args.walker.now.moves < c.args.reads.limits.now.steps = omega (arith, c.steps_of-steps.ensures, c.if-moves-steps.false) in
    spent_at (setting c.args.reads) _ _ _ _ _ c.spent.result h (search rules) c.spent.ensures
