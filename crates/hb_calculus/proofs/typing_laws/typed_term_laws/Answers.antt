use Rattle.hb_calculus.proofs.WellScoped.{HasType-scoped, HasType-declared}
use Rattle.hb_calculus.proofs.typing_laws.typed_term_laws.Goals as goal

pub returns : goal.returns
returns c = λ E G t u h. (HasType-scoped E h, HasType-declared E h)
