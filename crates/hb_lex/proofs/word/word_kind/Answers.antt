use Rattle.hb_lex.specs.Words.{word_kind}
use Rattle.std.proofs.Common.{rules}
use Rattle.hb_lex.proofs.word.word_kind.Goals as goal

pub returns-then-eq : goal.returns-then-eq
unfolding word_kind
returns-then-eq c = search rules

pub returns-then-is_keyword : goal.returns-then-is_keyword
unfolding word_kind
returns-then-is_keyword c = search rules

pub returns-else-is_keyword : goal.returns-else-is_keyword
unfolding word_kind
returns-else-is_keyword c = search rules
