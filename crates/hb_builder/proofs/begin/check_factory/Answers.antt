use Rattle.std.proofs.Common.{sym, ◌∙◌}
use Rattle.hb_builder.specs.Refusing.{was_ended}
use Rattle.hb_builder.proofs.begin.check_factory.Goals as goal

pub returns-then-ended-clause-refused : goal.returns-then-ended-clause-refused
returns-then-ended-clause-refused c =
    let k = rw c.in-Some-Factory.field-0-is at c.in-Some-Factory.ensures.found in
    was_ended c.in-Some-Factory.f (sym k) (sym c.ended.ensures ∙ c.if-ended.true) c.refused.ensures
