use Rattle.hb_session.proofs.session.Session.commands.Goals as goal

pub returns-in-Err-clause-malformed : goal.returns-in-Err-clause-malformed
returns-in-Err-clause-malformed c = c.no_tokens.ensures _

pub returns-clause-malformed : goal.returns-clause-malformed
returns-clause-malformed c =
    c.no_sentences.ensures c.args.file c.args.bytes.now c.parse.new.names c.in-Ok.tokens.items c.in-Ok.ensures.read (rw c.as_slice.ensures.value at c.in-Err-parse.ensures.refused)
