use Rattle.std.proofs.Common.{sym, rules}
use Rattle.std.specs.Prelude.{IsSome}
use Rattle.hb_strict.specs.Strict.{strict_constant}
use Rattle.hb_strict.proofs.TableLemmas.{line_added, sort_line}
use Rattle.hb_strict.proofs.table.Table.constant.Goals as goal

pub returns-in_ok-add-in-Some : goal.returns-in_ok-add-in-Some
returns-in_ok-add-in-Some c =
    λ h.
    let s : IsSome c.size.result = search rules in
    line_added c.args.env.now c.args.self.now c.add.new.self _ c.in_ok-add-in-Some.ensures.contexts c.in_ok-add-in-Some.ensures.added h
    (sort_line c.args.env.now c.args.self.now.contexts.items _ (c.size.ensures s h.contexts) (λ G. strict_constant (sym (rw c.in-Some.is at c.in_ok-type_of.ensures))))
