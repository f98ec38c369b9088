use Rattle.std.proofs.Common.{refl, rules}
use Rattle.std.specs.Prelude.{IsSome}
use Rattle.hb_strict.specs.Tables.{IsUnder}
use Rattle.hb_strict.proofs.TableLemmas.{line_added, function_line, some_sorted}
use Rattle.hb_strict.proofs.table.Table.function.Goals as goal

pub returns : goal.returns
returns c =
    λ E h.
    let u : IsUnder c.args.self.now c.args.domain c.args.body = search rules in
    let n : IsSome c.sort_of.result = search rules in
    let o = some_sorted c.args.self.now c.args.domain c.sort_of.result c.sort_of.ensures n in
    line_added E c.args.self.now c.add.new.self _ c.in_ok-add.ensures.contexts c.in_ok-add.ensures.added h
    (function_line E c.args.self.now c.args.domain c.args.body c.in-Some-Some.outer.now c.in-Some-Some.inner.now _ o.0 h u
    c.in-Some-Some.ensures c.in-Some-Some.ensures' o.1 refl
    (rw (c.in_ok-copy.ensures, c.in_ok-copy-2.ensures) at c.in_ok-term.ensures) (rw (c.in_ok-copy-3.ensures, c.in_ok-copy-4.ensures) at c.in_ok-ty.ensures))
