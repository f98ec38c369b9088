-- Reduction sequences, as the plain bodies follow them.
use Rattle.std.specs.Prelude.{List, Option}
use Rattle.hb_tree.specs.Tree.{Tree}
use Rattle.hb_calculus.specs.Declarations.{Decl}
use Rattle.hb_calculus.specs.Contraction.{contract, eta_of}
use Rattle.hb_calculus.specs.Sequence.{Stage, stepping, contracting}
use Rattle.plain_reduction.specs.declared.stage.Phase.{Phase}
use Rattle.plain_reduction.specs.declared.stage.Phase.TheVariants.{Stepping, Contracting}

-- what the rules of a phase make of the term itself
abbrev pub rule_of : Phase → List Decl → Tree → Option Tree
rule_of Stepping E t = contract E t
rule_of Contracting E t = eta_of E t

-- the term of a sequence in its phase
abbrev pub stage : Phase → Tree → Stage
stage Stepping t = stepping t
stage Contracting t = contracting t
