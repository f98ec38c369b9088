use Rattle.std.proofs.Common.{List, drop}
use Rattle.hb_tree.specs.Tree.{Tree}
use Rattle.hb_strict.specs.Tables.{IsContext}
use Rattle.hb_strict.proofs.table.Table.variable_type.Given as goal

abbrev pub invariant-loop-passed : goal.invariant-loop-passed
invariant-loop-passed l = (G : List Tree) → IsContext l.self.contexts.items l.fn.context G → IsContext l.self.contexts.items l.now (drop l._passed G)
