use Rattle.std.proofs.Common.{◌+◌, ◌*◌, max}
use Rattle.hb_tree.specs.Tree.{depth}
use Rattle.hb_term.specs.Meaning.{tree}
use Rattle.hb_kernel.proofs.infer.+infer.Given as goal

abbrev pub decreases-infer : goal.decreases-infer
decreases-infer l = 4 * depth (tree l.t.now)

abbrev pub decreases-type_sort : goal.decreases-type_sort
decreases-type_sort l = 4 * depth (tree l.t.now) + 1

abbrev pub decreases-product : goal.decreases-product
decreases-product l = 4 * max (depth l.a.now) (depth l.b.now) + 2

abbrev pub decreases-function : goal.decreases-function
decreases-function l = 4 * max (depth l.a.now) (depth l.b.now) + 2

abbrev pub decreases-applied : goal.decreases-applied
decreases-applied l = 4 * depth l.f.now + 1

abbrev pub decreases-application : goal.decreases-application
decreases-application l = 4 * max (depth l.f.now) (depth l.x.now) + 2

abbrev pub decreases-projection : goal.decreases-projection
decreases-projection l = 4 * depth l.of.now + 2
