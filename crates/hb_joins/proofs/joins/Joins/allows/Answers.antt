use Rattle.std.proofs.Common.{arith}
use Rattle.hb_joins.proofs.CandidateLemmas.{allowed_by_tests, some-by_same, none_found, decided}
use Rattle.hb_joins.proofs.joins.Joins.allows.Goals as goal

pub returns : goal.returns
returns c =
    let h = c.args.self.now in
    let x = c.args.set.now in
    decided h x c.first_missing.result c.is_none.result _ c.is_none.ensures
    (λ r first allowed. allowed.joins r.0.0 r.1.0 r.2.0 (omega (arith, first.later, first.declared)) first.declared first.missing)
    c.first_missing.ensures.found
    (λ none. allowed_by_tests h x (some-by_same x _ c.if-same.false c.same.ensures c.empty.ensures)
    (c.first_above.ensures.none (none_found c.first_above.result _ c.if-is_some.false c.is_some.ensures)) (c.first_missing.ensures.none none))
