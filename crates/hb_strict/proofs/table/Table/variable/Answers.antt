use Rattle.std.proofs.Common.{◌≡◌, ◌+◌, refl, rules}
use Rattle.std.specs.Prelude.{IsSome}
use Rattle.hb_term.specs.Meaning.{tree}
use Rattle.hb_strict.proofs.TableLemmas.{line_added, variable_line}
use Rattle.hb_strict.proofs.table.Table.variable.Goals as goal

pub returns : goal.returns
returns c =
    λ E h.
    let s : IsSome c.size.result = search rules in
    let b : c.in_ok-by.by ≡ c.args.variable + 1 = search rules in
    line_added E c.args.self.now c.add.new.self _ c.in_ok-add.ensures.contexts c.in_ok-add.ensures.added h
    (variable_line E c.args.self.now.contexts.items _ c.args.variable (tree c.in-Some.ty.now) (c.size.ensures s h.contexts) c.in-Some.ensures refl (rw b at c.in_ok-ty.ensures))
