use Rattle.std.proofs.Common.{refl}
use Rattle.hb_session.specs.State.{state}
use Rattle.hb_session.proofs.GoesLemmas.{find_taken}
use Rattle.hb_session.proofs.session.Session.find.Goals as goal

pub returns-in-Ok-Find-clause-taken : goal.returns-in-Ok-Find-clause-taken
returns-in-Ok-Find-clause-taken c =
    rw c.requires.1
    (find_taken (state c.args.self.now) _ c.args.structure c.requires.0 c.in-Ok-Find.key refl (rw c.in-Ok-Find.field-0-is at c.in-Ok-Find.ensures.grown) c.in-Ok-Find.ensures.names
    (rw c.requires.1 at c.in-Ok-Find.ensures.grows) (rw c.requires.1 at c.in-Ok-Find.ensures.leaves))
