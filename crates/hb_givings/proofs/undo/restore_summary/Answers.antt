use Rattle.std.proofs.Common.{cond, ap, ◌∙◌, sym}
use Rattle.hb_givings.specs.Givings.{same_const}
use Rattle.hb_givings.specs.Lookups.{summary_in}
use Rattle.hb_givings.proofs.undo.restore_summary.Goals as goal

pub returns-in-None : goal.returns-in-None
returns-in-None c = λ k.
    c.swap_remove.ensures.updates.0 k ∙ ap (λ o. cond (same_const c.args.carrier k) o (summary_in c.args.summaries.now.entries k)) (sym c.in-None.is)
