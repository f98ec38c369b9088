use Rattle.std.proofs.Common.{rules}
use Rattle.std.specs.Prelude.{IsSome}
use Rattle.hb_strict.proofs.TableLemmas.{line_added, sort_line}
use Rattle.hb_strict.proofs.table.Table.sort.Goals as goal

pub returns : goal.returns
returns c =
    λ E h.
    let s : IsSome c.size.result = search rules in
    line_added E c.args.self.now c.add.new.self _ c.in_ok-add.ensures.contexts c.in_ok-add.ensures.added h
    (sort_line E c.args.self.now.contexts.items _ (c.size.ensures s h.contexts) (c.in-Some.ensures E))
