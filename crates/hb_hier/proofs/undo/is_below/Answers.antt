use Rattle.std.proofs.Common.{◌≡◌, ℕ, ◌<◌, arith, nat_lt, true, Some, refl}
use Rattle.std.proofs.lemmas.Bool.Decides.{nat_tests}
use Rattle.hb_hier.proofs.undo.is_below.Goals as goal

is-below : (s n t : ℕ) → nat_lt s n ≡ true → Some s ≡ Some t → t < n
is-below s n t lt is = grind (arith, nat_tests)

passes : (s n : ℕ) → s < n → nat_lt s n ≡ true
passes s n lt = grind (arith, nat_tests)

pub returns-in-Some : goal.returns-in-Some
returns-in-Some c = rw c.in-Some.is (λ lt t is. is-below c.in-Some.s.0 c.args.structures t lt is, λ all. passes c.in-Some.s.0 c.args.structures (all c.in-Some.s.0 refl))
