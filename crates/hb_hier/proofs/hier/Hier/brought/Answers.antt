use Rattle.std.proofs.Common.{sym, ◌∙◌, ap, take}
use Rattle.std.proofs.lemmas.List.Sums.{fold_more}
use Rattle.hb_sets.specs.Set.{empty, union}
use Rattle.hb_hier.specs.Hierarchy.{known_as, full_or_none, brought, nameless}
use Rattle.hb_hier.proofs.hier.Hier.brought.Goals as goal

pub loop-name-preserved : goal.loop-name-preserved
loop-name-preserved c =
    c.union-all.ensures
    ∙ ap (λ s. union s c.full_named.result) c.loop-name.invariant
    ∙ ap (union (brought c.args.self.now (take c.loop-name.name-index c.args.items.now))) c.full_named.ensures
    ∙ sym (fold_more (λ s n. union s (full_or_none c.args.self.now (known_as c.args.self.now n))) empty c.args.items.now c.loop-name.name-index nameless c.loop-name-test.true)
