use Rattle.std.specs.Prelude.{◌++◌, string_bytes}
use Rattle.std.proofs.Common.{ap, ◌∙◌, sym, arith}
use Rattle.hb_writer.specs.Pieces.{stack_text, weights}
use Rattle.hb_writer.specs.Text.{bound_names}
use Rattle.hb_writer.proofs.PieceLemmas.{stack_more, weights_more}
use Rattle.hb_writer.proofs.term.piece_front.Goals as goal

pub pieces-smaller : goal.pieces-smaller
pieces-smaller c =
    let e = c.in-Some.ensures.items in
    let w = weights_more c.pop.new.self.items c.in-Some.piece in
    omega (arith, ap weights e, w, c.in_ok-write_piece-in-Some.ensures.falls)

pub pieces-preserved : goal.pieces-preserved
pieces-preserved c =
    let e = c.in-Some.ensures.items in
    let B = bound_names c.args.bound.now in
    let w = stack_more c.args.names.now c.args.env.now B c.pop.new.self.items c.in-Some.piece in
    c.in_ok-write_piece-in-Some.ensures.text ∙ (ap (λ l. string_bytes c.pieces.out ++ l) (sym w ∙ ap (stack_text c.args.names.now c.args.env.now B) (sym e)) ∙ c.pieces.invariant)
