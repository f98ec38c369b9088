use Rattle.std.proofs.Common.{map}
use Rattle.hb_term.specs.Meaning.{tree}
use Rattle.hb_plain.proofs.ClosingLemmas.{is_closed}
use Rattle.hb_plain.proofs.definition.closed.Goals as goal

pub returns-in_ok-closed_body-in-Some : goal.returns-in_ok-closed_body-in-Some
returns-in_ok-closed_body-in-Some c =
    rw
    (c.in-Some.is, c.in_ok-closed_type-in-Some.ensures, c.in_ok-closed_body-in-Some.ensures, c.deref.ensures.value, c.deref-in-Some.ensures.value)
    (is_closed (map tree c.in-Some.section.context.items) (tree c.args.made.ty) (tree c.args.made.term))
