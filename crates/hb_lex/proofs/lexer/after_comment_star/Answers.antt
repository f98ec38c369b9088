use Rattle.std.proofs.Common.{◌∙◌}
use Rattle.hb_lex.proofs.Comments.{star_other}
use Rattle.hb_lex.proofs.lexer.after_comment_star.Goals as goal

pub returns-in_default : goal.returns-in_default
returns-in_default c = record {
  is = λ bytes b n. c.in_comment.ensures.is bytes b n ∙ star_other c.args.deeper b c.args.class c.in_default.not-Close;
  before = c.in_comment.ensures.before;
}
