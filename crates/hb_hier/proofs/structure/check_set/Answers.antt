use Rattle.std.proofs.Common.{refl, arith}
use Rattle.hb_joins.proofs.CandidateLemmas.{allowed_by_tests, some-by_same}
use Rattle.hb_hier.proofs.structure.check_set.Goals as goal

pub returns-then-len-eq1024-clause-refused : goal.returns-then-len-eq1024-clause-refused
returns-then-len-eq1024-clause-refused c = (
  allowed_by_tests c.args.joins.now c.args.set.now (some-by_same c.args.set.now _ c.if-same.false c.same.ensures c.empty.ensures)
      (c.in_default-first_above.ensures.none refl) (c.in_default-first_missing.ensures.none refl),
  refl,
  omega arith,
)

pub returns-clause-allowed : goal.returns-clause-allowed
returns-clause-allowed c =
    allowed_by_tests c.args.joins.now c.args.set.now (some-by_same c.args.set.now _ c.if-same.false c.same.ensures c.empty.ensures)
    (c.in_default-first_above.ensures.none refl) (c.in_default-first_missing.ensures.none refl)
