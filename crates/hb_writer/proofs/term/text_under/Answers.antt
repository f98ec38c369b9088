use Rattle.std.specs.Prelude.{string_bytes}
use Rattle.std.proofs.Common.{arith}
use Rattle.hb_term.specs.Meaning.{tree}
use Rattle.hb_writer.specs.Text.{text_in, bound_names}
use Rattle.hb_writer.proofs.PieceLemmas.{whole_front}
use Rattle.hb_writer.proofs.term.text_under.Goals as goal

pub returns-in-Ok : goal.returns-in-Ok
returns-in-Ok c =
    whole_front
    18446744073709551615
    (string_bytes c.in-Ok.text)
    (text_in c.args.names.now c.args.env.now (bound_names c.args.bound.now) c.args.depth (tree c.args.term.now))
    (omega (arith, c.in-Ok.text.bytes.ok, c.in-Ok.text.bytes.small))
    c.in-Ok.ensures
