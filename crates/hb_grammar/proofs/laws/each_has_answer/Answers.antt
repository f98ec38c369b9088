use Rattle.hb_grammar.proofs.Answer.{each_has_answer}
use Rattle.hb_grammar.proofs.laws.each_has_answer.Goals as goal

pub returns : goal.returns
returns c = each_has_answer
