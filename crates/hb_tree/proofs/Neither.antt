-- What has neither of two parts, as a test.
use Rattle.std.proofs.Common.{◌≡◌, Bool, true, false, ◌||◌, refl}

pub neither : {p q : Bool} → p ≡ false → q ≡ false → (p || q) ≡ false
neither e f = rw (e, f)

pub first_not : (p q : Bool) → (p || q) ≡ false → p ≡ false
first_not false q e = refl
first_not true q e = e

pub second_not : (p q : Bool) → (p || q) ≡ false → q ≡ false
second_not false q e = e
second_not true q e = absurd (cc)
