use Rattle.std.proofs.Common.{◌+◌, ap, ◌∙◌}
use Rattle.hb_lex.specs.Views.{reading}
use Rattle.hb_lex.proofs.Grown.{second_begins}
use Rattle.hb_lex.proofs.lexer.Source.after_word_point.Goals as goal

pub returns-in-Alpha-clause-step : goal.returns-in-Alpha-clause-step
returns-in-Alpha-clause-step c =
    let a = c.args in
    let s = a.self.now in
    ap (λ o. reading s.bytes.now (a.at + 1) a.tokens.now.items o) c.fits.ensures.room
    ∙ second_begins (record { file = s.file; longest = s.longest }) s.bytes.now a.tokens.now.items a.from a.point a.at a.class
    c.requires.within c.in-Alpha.is
