-- From each state there is a way on to the end of a text.
use Rattle.std.proofs.Common.{◌≡◌, ℕ, ◌+◌, List, [], ◌∷◌, zero, suc, Some, refl}
use Rattle.hb_lex.specs.declared.token.Token.{Token}
use Rattle.hb_lex.specs.Letters.{letters}
use Rattle.hb_lex.specs.Text.{Rules}
use Rattle.hb_lex.specs.Machine.{Doing, between, in_word, word_point, in_second, in_number, opened, coloned, arrow_begun, pointed, point_opened, comment, comment_star, comment_open, at, run}

pub record Ends (r : Rules) (ts : List Token) (s : Doing) (n : ℕ) : Type 0 where
  pub bytes : List ℕ
  pub tokens : List Token
  pub runs : run r (Some (at ts s)) n (letters bytes) ≡ Some tokens

comment_ends : {r : Rules} (d : ℕ) (ts : List Token) (n : ℕ) → Ends r ts (comment d) n
comment_ends zero ts n = record { bytes = 42 ∷ (41 ∷ []); tokens = ts; runs = refl }
comment_ends {r = r} (suc d) ts n =
    let e = comment_ends {r = r} d ts (n + 1 + 1) in
    record { bytes = 42 ∷ (41 ∷ e.bytes); tokens = e.tokens; runs = e.runs }

pub ends : {r : Rules} (s : Doing) (ts : List Token) (n : ℕ) → Ends r ts s n
ends between ts n = record { bytes = []; tokens = _; runs = refl }
ends (in_word f w) ts n = record { bytes = []; tokens = _; runs = refl }
ends (word_point f p) ts n = record { bytes = []; tokens = _; runs = refl }
ends (in_second f w) ts n = record { bytes = []; tokens = _; runs = refl }
ends (in_number f) ts n = record { bytes = []; tokens = _; runs = refl }
ends (opened f) ts n = record { bytes = []; tokens = _; runs = refl }
ends (coloned f) ts n = record { bytes = []; tokens = _; runs = refl }
ends (arrow_begun f) ts n = record { bytes = 62 ∷ []; tokens = _; runs = refl }
ends (pointed f) ts n = record { bytes = []; tokens = _; runs = refl }
ends (point_opened f) ts n = record { bytes = []; tokens = _; runs = refl }
ends (comment d) ts n = comment_ends d ts n
ends {r = r} (comment_star d) ts n =
    let e = comment_ends {r = r} d ts (n + 1) in record { bytes = 32 ∷ e.bytes; tokens = e.tokens; runs = e.runs }
ends {r = r} (comment_open d) ts n =
    let e = comment_ends {r = r} d ts (n + 1) in record { bytes = 32 ∷ e.bytes; tokens = e.tokens; runs = e.runs }
