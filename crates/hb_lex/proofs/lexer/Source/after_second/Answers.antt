use Rattle.std.proofs.Common.{◌+◌, arith, ap, ◌∙◌}
use Rattle.hb_lex.specs.Views.{reading}
use Rattle.hb_lex.proofs.Grown.{second_grows}
use Rattle.hb_lex.proofs.lexer.Source.after_second.Goals as goal

pub returns-in-Alpha-clause-step : goal.returns-in-Alpha-clause-step
returns-in-Alpha-clause-step c =
    let a = c.args in
    let s = a.self.now in
    ap (λ o. reading s.bytes.now (a.at + 1) a.tokens.now.items o) c.fits.ensures.room
    ∙ second_grows (record { file = s.file; longest = s.longest }) s.bytes.now a.tokens.now.items a.from a.second a.at a.class
    c.requires.within (omega arith) c.in-Alpha.is
