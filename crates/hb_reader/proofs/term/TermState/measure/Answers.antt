use Rattle.hb_reader.specs.Views.{part}
use Rattle.hb_reader.proofs.term.TermState.measure.Goals as goal

pub returns-in-Want : goal.returns-in-Want
returns-in-Want c = λ w. rw c.in-Want.is (c.wanted.ensures w)

pub returns-in-Have : goal.returns-in-Have
returns-in-Have c = λ w. rw c.in-Have.is (c.behind.ensures (part c.in-Have.field-1) w)

pub returns-in-More : goal.returns-in-More
returns-in-More c = λ w. rw c.in-More.is (c.making.ensures w)

pub returns-in-UniverseAt : goal.returns-in-UniverseAt
returns-in-UniverseAt c = λ w. rw c.in-UniverseAt.is (c.universe_at.ensures (part c.in-UniverseAt.field-1) w)

pub returns-in-Bare : goal.returns-in-Bare
returns-in-Bare c = λ w. rw c.in-Bare.is (c.within.ensures.nested, c.within.ensures.applied)

pub returns-in-Level : goal.returns-in-Level
returns-in-Level c = λ w. rw c.in-Level.is (c.within-in-Level.ensures.nested, c.within-in-Level.ensures.applied)

pub returns-in-LevelClose : goal.returns-in-LevelClose
returns-in-LevelClose c = λ w. rw c.in-LevelClose.is (c.within-in-LevelClose.ensures.nested, c.within-in-LevelClose.ensures.applied)

pub returns-in-Projecting : goal.returns-in-Projecting
returns-in-Projecting c = λ w. rw c.in-Projecting.is (c.within-in-Projecting.ensures.nested, c.within-in-Projecting.ensures.applied)

pub returns-in-ProjectClose : goal.returns-in-ProjectClose
returns-in-ProjectClose c = λ w. rw c.in-ProjectClose.is (c.within-in-ProjectClose.ensures.nested, c.within-in-ProjectClose.ensures.applied)
