use Rattle.std.proofs.Common.{rules}
use Rattle.std.specs.Prelude.{IsSome}
use Rattle.hb_strict.proofs.TableLemmas.{context_added}
use Rattle.hb_strict.proofs.table.Table.extend.Goals as goal

pub returns : goal.returns
returns c =
    λ E h.
    let s : IsSome c.size.result = search rules in
    context_added E c.args.self.now _ _ c.in_ok-push-2.ensures.items c.in_ok-push.ensures.items (c.size.ensures s h.contexts) h
