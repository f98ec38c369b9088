use Rattle.std.proofs.Common.{IfSome, Option, subst}
use Rattle.hb_base.specs.declared.span.Span.{Span}
use Rattle.hb_core.specs.Places.{IsToken}
use Rattle.hb_core.proofs.file.refused_behind.Goals as goal

pub returns-in-Some-clause-refused : goal.returns-in-Some-clause-refused
returns-in-Some-clause-refused c = λ r ts e h.
    c.unknown_name.ensures.place r ts (subst (λ (o : Option Span). IfSome o (IsToken ts)) c.in-Some.is h)
