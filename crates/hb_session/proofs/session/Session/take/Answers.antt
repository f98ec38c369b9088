use Rattle.std.proofs.Common.{refl}
use Rattle.hb_raw.specs.Views.{term}
use Rattle.hb_session.proofs.GoesLemmas.{about_taken, howto_taken, join_taken}
use Rattle.hb_session.proofs.session.Session.take.Goals as goal

pub find-requires : goal.find-requires
find-requires c = (term c.in-Find.carrier, rw c.in-Find.is refl)

pub returns-in-Howto-clause-taken : goal.returns-in-Howto-clause-taken
returns-in-Howto-clause-taken c = rw c.in-Howto.is (howto_taken _ _ _ _ c.howto.ensures)

pub returns-in-Join-clause-taken : goal.returns-in-Join-clause-taken
returns-in-Join-clause-taken c = rw c.in-Join.is (join_taken _ _ _ _ c.join.ensures)

pub returns-in-About-clause-taken : goal.returns-in-About-clause-taken
returns-in-About-clause-taken c = rw c.in-About.is (about_taken _ _ _ c.about.ensures)
