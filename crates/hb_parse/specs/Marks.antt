-- What a token is to the grammar, by its kind and its text.
use Rattle.std.specs.Prelude.{ℕ, Bool, ◌+◌, ◌-◌, ◌*◌, ◌==◌, List, take, drop, fold, min, codes, if◌then◌else◌}
use Rattle.std.specs.List.{list_any, before_first, after_first}
use Rattle.std.specs.Str.{bytes_eq}
use Rattle.hb_base.specs.declared.span.Span.{Span}
use Rattle.hb_lex.specs.declared.token.TokenKind.{TokenKind}
use Rattle.hb_lex.specs.declared.token.TokenKind.TheVariants as kind
use Rattle.hb_grammar.specs.declared.mark.Mark.{Mark}
use Rattle.hb_grammar.specs.declared.mark.Mark.TheVariants.{Ident, Pair, Axiom, Context, Definition, Import, Prop, Record, Require, Universe, Forall, Fun, Of, Hole, Number, Open, Close, Brace, Unbrace, Colon, Becomes, Gives, Arrow, Comma, Semicolon, Ampersand, At, Project, End, Other}
use Rattle.hb_grammar.specs.declared.mark.Second.{Second}
use Rattle.hb_grammar.specs.declared.mark.Second.TheVariants as second

-- the bytes at a place
abbrev pub piece : List ℕ → Span → List ℕ
piece bytes place = take (place.to - place.from) (drop place.from bytes)

abbrev pub keyword_mark : List ℕ → Mark
keyword_mark text =
    if bytes_eq text (codes "Axiom") then Axiom else (
    if bytes_eq text (codes "Context") then Context else (
    if bytes_eq text (codes "Definition") then Definition else (
    if bytes_eq text (codes "Import") then Import else (
    if bytes_eq text (codes "Prop") then Prop else (
    if bytes_eq text (codes "Record") then Record else (
    if bytes_eq text (codes "Require") then Require else (
    if bytes_eq text (codes "Type") then Universe else (
    if bytes_eq text (codes "forall") then Forall else (
    if bytes_eq text (codes "fun") then Fun else (
    if bytes_eq text (codes "of") then Of else Other))))))))))

abbrev pub symbol_mark : List ℕ → Mark
symbol_mark text =
    if bytes_eq text (codes "(") then Open else (
    if bytes_eq text (codes ")") then Close else (
    if bytes_eq text (codes "{") then Brace else (
    if bytes_eq text (codes "}") then Unbrace else (
    if bytes_eq text (codes ":") then Colon else (
    if bytes_eq text (codes ":=") then Becomes else (
    if bytes_eq text (codes "=>") then Gives else (
    if bytes_eq text (codes "->") then Arrow else (
    if bytes_eq text (codes ",") then Comma else (
    if bytes_eq text (codes ";") then Semicolon else (
    if bytes_eq text (codes "&") then Ampersand else (
    if bytes_eq text (codes "@") then At else (
    if bytes_eq text (codes ".(") then Project else Other))))))))))))

-- the second part of a name that commands may ask for
abbrev pub part_mark : List ℕ → Second
part_mark text =
    if bytes_eq text (codes "Build") then second.Build else (
    if bytes_eq text (codes "type") then second.Carried else second.Plain)

-- the second part of a name with `HB` for its first: the words of commands
abbrev pub word_mark : List ℕ → Second
word_mark text =
    if bytes_eq text (codes "mixin") then second.Mixin else (
    if bytes_eq text (codes "factory") then second.Factory else (
    if bytes_eq text (codes "builders") then second.Builders else (
    if bytes_eq text (codes "end") then second.End else (
    if bytes_eq text (codes "structure") then second.Structure else (
    if bytes_eq text (codes "instance") then second.Instance else (
    if bytes_eq text (codes "join") then second.Join else (
    if bytes_eq text (codes "find") then second.Find else (
    if bytes_eq text (codes "howto") then second.Howto else (
    if bytes_eq text (codes "about") then second.About else part_mark text)))))))))

abbrev pub pair_mark : List ℕ → List ℕ → Second
pair_mark first last = if bytes_eq first (codes "HB") then word_mark last else part_mark last

abbrev pub is_point : ℕ → Bool
is_point b = b == 46

-- what stands before the point of a name of two parts; all of a name of one part
abbrev pub first_part : List ℕ → List ℕ
first_part text = before_first is_point text

abbrev pub second_part : List ℕ → List ℕ
second_part text = after_first is_point text

abbrev pub name_mark : List ℕ → Mark
name_mark text =
    if list_any is_point text then Pair (pair_mark (first_part text) (second_part text)) else Ident

-- a token of the kind, with this text
abbrev pub mark_of : TokenKind → List ℕ → Mark
mark_of kind.Name text = name_mark text
mark_of kind.Keyword text = keyword_mark text
mark_of kind.Hole text = Hole
mark_of kind.Number text = Number
mark_of kind.Symbol text = symbol_mark text
mark_of kind.End text = End
mark_of kind.Operator text = Other
mark_of kind.Quoted text = Other

-- the number that decimal digits are
abbrev pub number_of : List ℕ → ℕ
number_of digits = fold (λ n b. 10 * n + (b - 48)) 0 digits

-- a written level: its number, or 64 for each that is above 63
abbrev pub level_of : List ℕ → ℕ
level_of digits = min 64 (number_of digits)
