use Rattle.std.proofs.Common.{ap, ◌∙◌, ◌+◌, option_map}
use Rattle.hb_raw.specs.Views.{term, group_of, groups}
use Rattle.hb_reader.specs.Views.{bound_in}
use Rattle.hb_reader.proofs.GroupLemmas.{bound_in-more, bound_by_of}
use Rattle.hb_reader.proofs.groups.with_group.Goals as goal

pub returns-clause-count : goal.returns-clause-count
returns-clause-count c =
    let gs = groups c.args.gs.items in
    let t = option_map term c.args.ty in
    ap bound_in c.in_ok-more.ensures
    ∙ (bound_in-more gs (group_of c.args.names.items t) ∙ ap (λ n. bound_in gs + n) (bound_by_of c.args.names.items t))
