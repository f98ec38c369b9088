use Rattle.std.proofs.Common.{◌≡◌, ◌∙◌, refl, sym, ap, rules}
use Rattle.hb_term.specs.Meaning.{tree}
use Rattle.hb_strict.proofs.TableLemmas.{line_added, application_line}
use Rattle.hb_strict.proofs.table.Table.application.Goals as goal

pub returns : goal.returns
returns c =
    λ E h.
    let s : tree c.as_ref.result.now ≡ tree c.in-Some-Some.a.now.ty = search rules in
    line_added E c.args.self.now c.add.new.self _ c.in_ok-add.ensures.contexts c.in_ok-add.ensures.added h
    (application_line E c.args.self.now c.args.function c.args.argument c.in-Some-Some.f.now c.in-Some-Some.a.now _ c.in-Pi.domain c.in-Pi.codomain h
    c.in-Some-Some.ensures c.in-Some-Some.ensures' c.if-f-a.false (ap tree c.in-Pi.is) (sym c.as_ref.ensures ∙ s) refl
    (rw (c.in_ok-copy.ensures, c.in_ok-copy-2.ensures) at c.in_ok-term.ensures) (rw c.as_ref-2.ensures at c.in_ok-ty.ensures))
