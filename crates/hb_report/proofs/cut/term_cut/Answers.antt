use Rattle.std.specs.Prelude.{string_bytes}
use Rattle.hb_term.specs.Meaning.{tree}
use Rattle.hb_writer.specs.Text.{text}
use Rattle.hb_report.proofs.CutLemmas.{cut_front}
use Rattle.hb_report.proofs.cut.term_cut.Goals as goal

pub returns-in-Ok : goal.returns-in-Ok
returns-in-Ok c =
    rw
    (← cut_front (string_bytes c.in-Ok.text) (text c.args.names.now c.args.env.now c.args.term.now.depth (tree c.args.term.now.term)) c.in-Ok.ensures)
    c.cut.ensures
