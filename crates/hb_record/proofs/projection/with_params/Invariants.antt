use Rattle.std.proofs.Common.{◌≡◌, List, ◌+◌, ◌-◌, ◌++◌, length, drop}
use Rattle.hb_tree.specs.Tree.{Tree}
use Rattle.hb_calculus.specs.Telescopes.{filled}
use Rattle.hb_env.specs.Plain.{trees}
use Rattle.hb_record.proofs.projection.with_params.Given as goal

abbrev pub invariant-loop-param : goal.invariant-loop-param
invariant-loop-param l = record {
  places : l.left ≡ length l.params - l.param-index + l.inside;
  so_far : (vs : List Tree) → length vs ≡ l.inside → filled l.part (trees (drop l.param-index l.params) ++ vs) ≡ filled l.fn.part (trees l.params ++ vs);
}
