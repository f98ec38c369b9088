use Rattle.std.proofs.Common.{arith}
use Rattle.hb_term.specs.Meaning.{tree}
use Rattle.hb_env.proofs.ListLemmas.{all_nodes_more}
use Rattle.hb_env.proofs.decl.type_nodes.Goals as goal

pub loop-ty-preserved : goal.loop-ty-preserved
loop-ty-preserved c =
    omega (arith, all_nodes_more tree c.args.types.now c.loop-ty.ty-index c.ty-item.result c.loop-ty-test.true c.ty-item.is)
