use Rattle.std.proofs.Common.{rules}
use Rattle.std.proofs.lemmas.Fn.{filter_same}
use Rattle.hb_hier.specs.Undoing.{is_kept}
use Rattle.hb_hier.proofs.undo.keep_order.Goals as goal

pub returns : goal.returns
returns c = filter_same _ (is_kept c.args.mark) _ (λ k b f r. (search rules, search rules)) _ _ c.retain.ensures.filtered
