-- Places of tokens, and names that are held.
use Rattle.std.proofs.Common.{◌≡◌, ℕ, ◌<◌, ◌++◌, List, [], Some, length, map, option_map, slice_get, get_or, refl, ap, sym, ◌∙◌, append_assoc, append-nil}
use Rattle.std.proofs.lemmas.Option.{slice_get-map, slice_get-get_or}
use Rattle.hb_lex.specs.declared.token.Token.{Token}
use Rattle.hb_core.specs.Names.{Extends}
use Rattle.hb_lex.specs.Places.{Refuses}
use Rattle.hb_lex.specs.Text.{Rules, HasTokens}
use Rattle.hb_lex.specs.declared.error.LexRefused.{LexRefused}
use Rattle.hb_lex.specs.declared.error.LexRefused.TheVariants as lexed
use Rattle.hb_core.specs.Places.{IsToken, StandsAt, RefusedAt, lexed_as}
use Rattle.hb_core.specs.declared.error.CoreRefused.{CoreRefused}
use Rattle.hb_core.specs.declared.error.CoreRefused.TheVariants as core

pub token_at : (ts : List Token) (i : ℕ) (d : Token) → i < length ts → IsToken ts (get_or ts i d).span
token_at ts i d h = (i, slice_get-map (λ (u : Token). u.span) ts i ∙ ap (option_map (λ (u : Token). u.span)) (slice_get-get_or ts i d h))

pub extends_same : (N : List (List ℕ)) → Extends N N
extends_same N = ([], sym (append-nil N))

pub extends_more : (N M L : List (List ℕ)) → Extends N M → Extends M L → Extends N L
extends_more N M L e f = (e.0 ++ f.0, f.1 ∙ ap (λ l. l ++ f.0) e.1 ∙ append_assoc N e.0 f.0)

-- a fault of tokens is one of a core text
pub refused_lexed : (r : Rules) (bytes : List ℕ) (l : LexRefused) → Refuses r bytes l → RefusedAt r bytes (lexed_as l)
refused_lexed r bytes (lexed.Utf8 at) h = h
refused_lexed r bytes (lexed.Lex at) h = h
refused_lexed r bytes lexed.NoMemory h = tt

-- where a text of these tokens is refused, it is
pub refused_tokens : (r : Rules) (bytes : List ℕ) (ts : List Token) (e : CoreRefused) → HasTokens r bytes ts → StandsAt r bytes ts e → RefusedAt r bytes e
refused_tokens r bytes ts (core.Utf8 at) h s = absurd s
refused_tokens r bytes ts (core.Lex at) h s = absurd s
refused_tokens r bytes ts (core.CoreSyntax at) h s = (ts, h, s)
refused_tokens r bytes ts (core.TooDeep at) h s = (ts, h, s)
refused_tokens r bytes ts (core.UnknownName n at) h s = (ts, h, s)
refused_tokens r bytes ts (core.TooMany c at) h s = (ts, h, s)
refused_tokens r bytes ts core.NoMemory h s = tt
