use Rattle.std.proofs.Common.{sym}
use Rattle.std.proofs.lemmas.List.{map-append}
use Rattle.hb_term.specs.Meaning.{tree}
use Rattle.hb_unify.proofs.FormLemmas.{projections_next}
use Rattle.hb_unify.proofs.fields.projections.Goals as goal

pub loop-field-preserved : goal.loop-field-preserved
loop-field-preserved c =
    rw (c.in_ok-push.ensures.items, map-append, c.loop-field.invariant, c.in_ok-proj.ensures, c.in_ok-copy.ensures)
    (sym (projections_next c.args.rec c.loop-field.field (tree c.args.of.now)))
