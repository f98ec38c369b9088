use Rattle.std.proofs.Common.{rules}
use Rattle.std.specs.Prelude.{IsSome}
use Rattle.hb_strict.proofs.TableLemmas.{ok_more, chain_goes_on, some_sorted}
use Rattle.hb_strict.proofs.table.Table.follows.Goals as goal

pub returns-else-from-to : goal.returns-else-from-to
returns-else-from-to c =
    let n : IsSome c.sort_of.result = search rules in
    let o = some_sorted c.args.self.now c.args.at c.sort_of.result c.sort_of.ensures n in
    ok_more c.is_linked.result
    (λ b k t h line d.
    chain_goes_on c.args.env.now c.args.self.now line c.args.before c.args.at c.args.link o.0 c.in-Some-Some.from.now c.in-Some-Some.to.now h d o.1
    c.in-Some-Some.ensures c.in-Some-Some.ensures' c.if-from-to.false (k t))
    c.is_linked.ensures
