use Rattle.hb_reader.proofs.AlikeStates.{alike}
use Rattle.hb_reader.proofs.state.State.needs.Goals as goal

pub returns-clause-suffices : goal.returns-clause-suffices
returns-clause-suffices c = λ w v a. alike c.args.self.now.kind c.args.mark w v (rw (← c.needs.ensures) a)
