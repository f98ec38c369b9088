use Rattle.std.proofs.Common.{ap}
use Rattle.hb_term.specs.Meaning.{tree}
use Rattle.hb_kernel.specs.Contexts.{types}
use Rattle.hb_kernel.proofs.LeafLemmas.{too-high, prop-type, level-type}
use Rattle.hb_kernel.proofs.leaf.sort_type.Goals as goal

pub returns-then-k-gt62-clause-fault : goal.returns-then-k-gt62-clause-fault
returns-then-k-gt62-clause-fault c = too-high (types c.args.context.now) c.args.s c.in-Level.k c.in-Level.is c.if-k-gt62.true

pub returns-in-Prop-clause-inferred : goal.returns-in-Prop-clause-inferred
returns-in-Prop-clause-inferred c = prop-type (types c.args.context.now) c.args.s _ c.in-Prop.is (ap tree c.in_scope.ensures.term)

pub returns-else-k-gt62-clause-inferred : goal.returns-else-k-gt62-clause-inferred
returns-else-k-gt62-clause-inferred c =
    level-type (types c.args.context.now) c.args.s c.in-Level.k _ c.in-Level.is c.if-k-gt62.false (ap tree c.in_scope-in-Level.ensures.term)
