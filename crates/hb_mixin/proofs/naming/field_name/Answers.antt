use Rattle.std.proofs.Common.{◌∙◌}
use Rattle.std.proofs.lemmas.Result.{MatchResult-weaker}
use Rattle.hb_mixin.proofs.RefuseLemmas.{field_number}
use Rattle.hb_mixin.proofs.naming.field_name.Goals as goal

pub returns-clause-refused : goal.returns-clause-refused
returns-clause-refused c =
    MatchResult-weaker c.followed.result c.followed.ensures.refused (λ _ k. k)
    (λ r. field_number c.args.names.now c.followed.new.names c.args.name c.args.field c.args.place r c.in-Ok.ensures.0 _ c.followed.ensures.kept c.in-Ok.ensures.1
    (c.deref.ensures ∙ c.in-Ok.ensures.2))
