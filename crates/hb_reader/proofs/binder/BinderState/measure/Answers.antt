use Rattle.hb_reader.proofs.binder.BinderState.measure.Goals as goal

pub returns-in-First : goal.returns-in-First
returns-in-First c = λ w. rw c.in-First.is (c.bound.ensures w)

pub returns-in-Bares : goal.returns-in-Bares
returns-in-Bares c = λ w. rw c.in-Bares.is (c.bound-in-Bares.ensures w)

pub returns-in-Groups : goal.returns-in-Groups
returns-in-Groups c = λ w. rw c.in-Groups.is (c.bound-in-Groups.ensures w)

pub returns-in-Opened : goal.returns-in-Opened
returns-in-Opened c = λ w. rw c.in-Opened.is (c.bracketed.ensures.nested, c.bracketed.ensures.applied)

pub returns-in-Names : goal.returns-in-Names
returns-in-Names c = λ w. rw c.in-Names.is (c.bracketed-in-Names.ensures.nested, c.bracketed-in-Names.ensures.applied)
