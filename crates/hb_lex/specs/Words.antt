-- Keywords and the hole among the words of identifier bytes.
use Rattle.std.specs.Prelude.{ℕ, Bool, List, ◌||◌, bytes_eq, codes, if◌then◌else◌}
use Rattle.hb_lex.specs.declared.token.TokenKind.{TokenKind}
use Rattle.hb_lex.specs.declared.token.TokenKind.TheVariants.{Name, Keyword, Hole}

abbrev pub is_keyword : List ℕ → Bool
is_keyword w =
    bytes_eq w (codes "Axiom") || bytes_eq w (codes "Context") || bytes_eq w (codes "Definition")
    || bytes_eq w (codes "Import") || bytes_eq w (codes "Prop") || bytes_eq w (codes "Record")
    || bytes_eq w (codes "Require") || bytes_eq w (codes "Type") || bytes_eq w (codes "forall")
    || bytes_eq w (codes "fun") || bytes_eq w (codes "of")

-- what a word of identifier bytes is: `_` alone is a hole, a keyword isn't an identifier
unfoldable pub word_kind : List ℕ → TokenKind
word_kind w = if bytes_eq w (codes "_") then Hole else (if is_keyword w then Keyword else Name)
