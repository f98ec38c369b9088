use Rattle.std.proofs.Common.{sym}
use Rattle.hb_session.proofs.GoesLemmas.{agree_more, takes_entry}
use Rattle.hb_session.proofs.session.Session.keep.Goals as goal

pub invariant_of-self-in-Ok-Entry : goal.invariant_of-self-in-Ok-Entry
invariant_of-self-in-Ok-Entry c = record {
  agree = agree_more c.args.self.now.theory c.apply.new.theory c.args.self.now.entries.items c.push_reserved.new.self.items c.in-Ok-Entry.entry c.args.self.now.agree
      (rw (sym c.reserve.ensures.items) c.push_reserved.ensures.items) (rw c.in-Ok-Entry.field-0-is at c.in-Ok-Entry.ensures.grown);
}

pub returns-in-Ok-Entry-clause-taken : goal.returns-in-Ok-Entry-clause-taken
returns-in-Ok-Entry-clause-taken c =
    takes_entry _ _ _ _ c.in-Ok-Entry.entry c.requires.family (rw c.in-Ok-Entry.field-0-is at c.in-Ok-Entry.ensures.head) c.requires.event
    (rw (sym c.reserve.ensures.items) c.push_reserved.ensures.items) (rw c.in-Ok-Entry.field-0-is at c.in-Ok-Entry.ensures.grown) c.in-Ok-Entry.ensures.names c.in-Ok-Entry.ensures.grows c.in-Ok-Entry.ensures.leaves
