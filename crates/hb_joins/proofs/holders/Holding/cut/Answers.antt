use Rattle.std.proofs.Common.{rules, ap, ◌∙◌}
use Rattle.std.proofs.lemmas.Fn.{filter_same}
use Rattle.hb_joins.specs.Lists.{is_before, held_before}
use Rattle.hb_joins.proofs.holders.Holding.cut.Goals as goal

pub returns : goal.returns
returns c =
    filter_same _ (is_before c.args.n) _ (λ k b f r. (search rules, search rules)) _ _ c.retain.ensures.filtered
    ∙ ap (held_before c.args.n) c.self.view_is
