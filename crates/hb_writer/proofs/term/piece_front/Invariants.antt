use Rattle.std.specs.Prelude.{◌≡◌, ◌++◌, string_bytes}
use Rattle.hb_writer.specs.Pieces.{piece_text, stack_text, weights}
use Rattle.hb_writer.specs.Text.{bound_names}
use Rattle.hb_writer.proofs.term.piece_front.Given as goal

-- what is written, with what is still to be written, is the text
abbrev pub invariant-pieces : goal.invariant-pieces
invariant-pieces l =
    string_bytes l.out ++ stack_text l.fn.names l.fn.env (bound_names l.fn.bound) l.stack.items ≡ piece_text l.fn.names l.fn.env (bound_names l.fn.bound) l.fn.piece

abbrev pub decreases-pieces : goal.decreases-pieces
decreases-pieces l = weights l.stack.items
