-- Pieces of texts that are still to be written.
use Rattle.std.specs.Prelude.{ℕ, ◌+◌, ◌*◌, List, [], ◌∷◌, ◌++◌, Option, map, option_map}
use Rattle.std.specs.Fmt.{decimal}
use Rattle.hb_tree.specs.Tree.{nodes}
use Rattle.hb_term.specs.Meaning.{tree}
use Rattle.hb_calculus.specs.Declarations.{Decl}
use Rattle.hb_writer.specs.declared.piece.Piece.{Piece}
use Rattle.hb_writer.specs.declared.piece.Piece.TheVariants.{Sign, Number, Name, Part}
use Rattle.hb_writer.specs.Text.{joined, name_text, text_in}

-- the text of a piece
abbrev pub piece_text : List (List ℕ) → List Decl → List (Option ℕ) → Piece → List ℕ
piece_text N E B (Sign s) = s.now
piece_text N E B (Number n) = decimal n
piece_text N E B (Name name k) = name_text N (option_map (λ n. n.0) name) k
piece_text N E B (Part d t) = text_in N E B d (tree t.now)

-- pieces one after another
abbrev pub pieces_text : List (List ℕ) → List Decl → List (Option ℕ) → List Piece → List ℕ
pieces_text N E B ps = joined (map (piece_text N E B) ps)

-- the text of a stack, whose last piece comes first
abbrev pub stack_text : List (List ℕ) → List Decl → List (Option ℕ) → List Piece → List ℕ
stack_text N E B [] = []
stack_text N E B (p ∷ ps) = stack_text N E B ps ++ piece_text N E B p

-- what is still to be done for a piece: it falls where a term is taken apart
abbrev pub weight : Piece → ℕ
weight (Sign s) = 1
weight (Number n) = 1
weight (Name name k) = 3
weight (Part d t) = 8 * nodes (tree t.now)

abbrev pub weights : List Piece → ℕ
weights [] = 0
weights (p ∷ ps) = weight p + weights ps
