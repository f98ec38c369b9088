use Rattle.std.proofs.Common.{◌≡◌, ◌≤◌}
use Rattle.hb_tree.specs.Tree.{apply}
use Rattle.hb_term.specs.Meaning.{tree}
use Rattle.hb_calculus.specs.Telescopes.{variables, former}
use Rattle.hb_env.proofs.types.applied_former.Given as goal

abbrev pub invariant-loop-left : goal.invariant-loop-left
invariant-loop-left l = record {
  within : l.left ≤ l.fn.params;
  rest : apply (tree l.term) (variables l.left l.fields) ≡ apply (former l.decl) (variables l.fn.params l.fields);
}

abbrev pub decreases-loop-left : goal.decreases-loop-left
decreases-loop-left l = l.left
