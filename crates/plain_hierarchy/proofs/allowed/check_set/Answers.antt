use Rattle.std.proofs.Common.{refl, sym, ◌∙◌, true≢false, arith}
use Rattle.plain_hierarchy.proofs.AllowedLemmas.{allowed_by_tests}
use Rattle.plain_hierarchy.proofs.allowed.check_set.Goals as goal

pub returns-then-structures-eq1024-clause-refused : goal.returns-then-structures-eq1024-clause-refused
returns-then-structures-eq1024-clause-refused c = (
  allowed_by_tests c.args.structures.now c.args.set.now (λ is. true≢false (sym (c.same.ensures.1 (is ∙ sym c.empty.ensures)) ∙ c.if-same.false)) (c.in_default-first_above.ensures.none refl) (c.in_default-first_missing.ensures.none refl),
  refl,
  omega arith,
)

pub returns-clause-allowed : goal.returns-clause-allowed
returns-clause-allowed c =
    allowed_by_tests c.args.structures.now c.args.set.now (λ is. true≢false (sym (c.same.ensures.1 (is ∙ sym c.empty.ensures)) ∙ c.if-same.false)) (c.in_default-first_above.ensures.none refl) (c.in_default-first_missing.ensures.none refl)
