use Rattle.std.proofs.Common.{◌∙◌, ◌+◌, arith}
use Rattle.hb_lex.proofs.Comments.{open_other}
use Rattle.hb_lex.proofs.lexer.after_comment_open.Goals as goal

pub returns-in_default : goal.returns-in_default
returns-in_default c = record {
  is = λ bytes b n. c.in_comment.ensures.is bytes b n ∙ open_other c.args.deeper b c.args.class c.in_default.not-Star;
  before = c.in_comment.ensures.before (c.args.at + 1) (omega arith);
}
