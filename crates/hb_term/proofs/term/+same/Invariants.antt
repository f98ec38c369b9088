use Rattle.std.proofs.Common.{◌≡◌, ◌↔◌, ◌≤◌, ◌+◌, ◌*◌}
use Rattle.hb_tree.specs.Tree.{depth}
use Rattle.hb_term.specs.Meaning.{tree}
use Rattle.hb_term.proofs.term.+same.Given as goal

abbrev pub decreases-Part::same : goal.decreases-Part::same
decreases-Part::same l = 2 * depth l.self.now + 1

abbrev pub decreases-Term::same : goal.decreases-Term::same
decreases-Term::same l = 2 * depth (tree l.self.now)

abbrev pub invariant-Term::same-loop-left : goal.invariant-Term::same-loop-left
invariant-Term::same-loop-left l = record {
  whole : (tree l.fn.self ≡ tree l.fn.other) ↔ (tree l.left ≡ tree l.right);
  within : depth (tree l.left) ≤ depth (tree l.fn.self);
}
