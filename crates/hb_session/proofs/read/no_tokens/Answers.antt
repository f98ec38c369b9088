use Rattle.std.proofs.Common.{refl}
use Rattle.hb_session.proofs.read.no_tokens.Goals as goal

pub returns-in-Lex : goal.returns-in-Lex
returns-in-Lex c = λ N. rw (c.at-in-Lex.ensures, c.at_byte-in-Lex.ensures) (record { refuses = rw c.in-Lex.is at c.requires; place = refl })
