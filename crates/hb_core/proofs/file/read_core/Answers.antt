use Rattle.hb_lex.specs.Text.{rules}
use Rattle.hb_core.proofs.PlaceLemmas.{refused_lexed}
use Rattle.hb_core.proofs.file.read_core.Goals as goal

pub returns-in-Err-clause-refused : goal.returns-in-Err-clause-refused
returns-in-Err-clause-refused c = rw c.from.ensures (refused_lexed (rules c.args.file 600) c.args.bytes.now c.in-Err.refused c.in-Err.ensures.refused)
