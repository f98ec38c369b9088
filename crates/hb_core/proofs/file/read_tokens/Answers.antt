use Rattle.hb_lex.specs.Text.{rules}
use Rattle.hb_core.proofs.file.read_tokens.Goals as goal

pub returns-in-Some-clause-refused : goal.returns-in-Some-clause-refused
returns-in-Some-clause-refused c =
    c.in-Some.ensures.refused (rules c.args.end.file 600) c.args.tokens.now c.requires c.in-Ok-read_all.ensures.unknown

pub returns-in-Err-read_all-clause-refused : goal.returns-in-Err-read_all-clause-refused
returns-in-Err-read_all-clause-refused c =
    c.in-Err-read_all.ensures.refused (rules c.args.end.file 600) c.args.bytes.now
