use Rattle.std.proofs.Common.{arith, refl}
use Rattle.hb_reduce.proofs.tests.doubling.Goals as goal

pub push-requires-2 : goal.push-requires-2
push-requires-2 c = rw c.constant.ensures (record { variables = omega arith; holes = refl })

pub push-requires-3 : goal.push-requires-3
push-requires-3 c = rw c.constant-2.ensures (record { variables = omega arith; holes = refl })

pub push-requires-4 : goal.push-requires-4
push-requires-4 c = (
  rw c.constant-4.ensures (record { variables = omega arith; holes = refl }),
  rw (c.in_ok-lam.ensures, c.constant-5.ensures, c.in_ok-twice.ensures, c.in_ok-once.ensures, c.constant-3.ensures)
      (record { variables = omega arith; holes = refl }),
)
