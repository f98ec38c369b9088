-- In a comment what doesn't end or open one goes on.
use Rattle.std.proofs.Common.{◌≡◌, ℕ, refl}
use Rattle.hb_lex.specs.declared.class.Class.{Class}
use Rattle.hb_lex.specs.declared.class.Class.TheVariants.{Close, Star}
use Rattle.hb_lex.specs.Letters.{letter}
use Rattle.hb_lex.specs.Machine.{in_comment, after_comment_star, after_comment_open}

pub star_other : (d b : ℕ) (c : Class) → (c ≡ Close → ⊥) → in_comment d (letter c b) ≡ after_comment_star d (letter c b)
star_other d b Close h = absurd (h refl)
star_other d b _ h = refl

pub open_other : (d b : ℕ) (c : Class) → (c ≡ Star → ⊥) → in_comment d (letter c b) ≡ after_comment_open d (letter c b)
open_other d b Star h = absurd (h refl)
open_other d b _ h = refl
