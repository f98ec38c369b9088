use Rattle.hb_lex.specs.Views.{doing, IsBefore}
use Rattle.hb_lex.proofs.Way.{Came}
use Rattle.hb_lex.proofs.lexer.tokens.Given as goal

abbrev pub invariant-loop-i : goal.invariant-loop-i
invariant-loop-i l = record {
  came : Came (record { file = l.file; longest = l.longest }) l.bytes l.i l.tokens.items (doing l.bytes l.i l.state);
  before : IsBefore l.i l.state;
}
