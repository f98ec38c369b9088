-- Pieces on a stack, whose last piece comes first.
use Rattle.std.proofs.Common.{◌≡◌, ℕ, ◌+◌, ◌<◌, List, [], ◌∷◌, ◌++◌, Option, length, take, min, refl, ap, ◌∙◌, sym, arith}
use Rattle.std.proofs.lemmas.List.{append_assoc, append-nil, take_all, length-take}
use Rattle.hb_calculus.specs.Declarations.{Decl}
use Rattle.hb_writer.specs.declared.piece.Piece.{Piece}
use Rattle.hb_writer.specs.Pieces.{piece_text, pieces_text, stack_text, weight, weights}

pub stack_more : (N : List (List ℕ)) (E : List Decl) (B : List (Option ℕ)) (ps : List Piece) (p : Piece) → stack_text N E B (ps ++ (p ∷ [])) ≡ piece_text N E B p ++ stack_text N E B ps
stack_more N E B [] p = sym (append-nil (piece_text N E B p))
stack_more N E B (q ∷ ps) p =
    ap (λ l. l ++ piece_text N E B q) (stack_more N E B ps p) ∙ append_assoc (piece_text N E B p) (stack_text N E B ps) (piece_text N E B q)

pub weights_more : (ps : List Piece) (p : Piece) → weights (ps ++ (p ∷ [])) ≡ weight p + weights ps
weights_more [] p = refl
weights_more (q ∷ ps) p = omega (arith, weights_more ps p)

pub pieces_before : (N : List (List ℕ)) (E : List Decl) (B : List (Option ℕ)) (p : Piece) (ps : List Piece) (l : List ℕ)
    → pieces_text N E B (p ∷ ps) ++ l ≡ piece_text N E B p ++ (pieces_text N E B ps ++ l)
pieces_before N E B p [] l = refl
pieces_before N E B p (q ∷ ps) l = append_assoc (piece_text N E B p) (pieces_text N E B (q ∷ ps)) l

-- a text is whole where its front is longer than it
pub whole_front : (m : ℕ) (s t : List ℕ) → length s < m → take m s ≡ take m t → s ≡ t
whole_front m s t h e =
    let a : s ≡ take m t = sym (take_all m s (omega (arith, h))) ∙ e in
    let l : length s ≡ min m (length t) = ap length a ∙ length-take m t in
    a ∙ take_all m t (omega (arith, l, h))
