use Rattle.std.proofs.Common.{ap, ◌∙◌, arith}
use Rattle.hb_raw.specs.Views.{groups}
use Rattle.hb_reader.specs.Views.{bound_in}
use Rattle.hb_reader.proofs.FrameLemmas.{body-nesting}
use Rattle.hb_reader.proofs.frame.Frame.nesting.Goals as goal

pub returns-in-Body : goal.returns-in-Body
returns-in-Body c = λ k e.
    let gs = groups c.in-Body.gs.items in
    let closing = ap (λ n. n.closing) e in
    let within = ap (λ n. n.within) e in
    rw c.in-Body.is
    (c.new-in-Body.ensures
    ∙ body-nesting c.in-Body.field-0 gs (bound_in gs) k _ _
    (omega (arith, within, c.bound_count-in-Body.ensures, c.saturating_add-in-Body.ensures)) closing)
