use Rattle.std.proofs.Common.{rules}
use Rattle.std.specs.Prelude.{IsSome}
use Rattle.hb_strict.proofs.TableLemmas.{chain_begins, some_sorted}
use Rattle.hb_strict.proofs.table.Table.is_type_of.Goals as goal

pub returns-then-line-of : goal.returns-then-line-of
returns-then-line-of c =
    λ t E h.
    let n : IsSome c.sort_of.result = search rules in
    let o = some_sorted c.args.self.now c.args.ty c.sort_of.result c.sort_of.ensures n in
    chain_begins E c.args.self.now c.args.at c.args.ty o.0 c.in-Some-Some.line.now c.in-Some-Some.of.now h o.1 c.in-Some-Some.ensures c.in-Some-Some.ensures'
    c.if-line-of.true (c.same.ensures.0 t)
