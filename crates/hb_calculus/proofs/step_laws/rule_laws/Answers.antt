use Rattle.std.proofs.Common.{◌∙◌, ap, sym}
use Rattle.hb_calculus.specs.Contraction.{same_tree}
use Rattle.hb_calculus.proofs.Rules.{contract-rule, rule-contract}
use Rattle.hb_calculus.proofs.Etas.{eta-rule, rule-eta}
use Rattle.hb_calculus.proofs.Same.{trees-same, tree-itself}
use Rattle.hb_calculus.proofs.Sequences.{next-step, no-step}
use Rattle.hb_calculus.proofs.Heads.{head-next}
use Rattle.hb_calculus.proofs.step_laws.rule_laws.Goals as goal

pub returns-clause-contract : goal.returns-clause-contract
returns-clause-contract c = λ E t u. (contract-rule E t u, rule-contract E t u)

pub returns-clause-eta : goal.returns-clause-eta
returns-clause-eta c = λ E t u. (eta-rule E t u, rule-eta E t u)

pub returns-clause-same : goal.returns-clause-same
returns-clause-same c = λ t u. (trees-same t u, λ e. ap (λ x. same_tree t x) (sym e) ∙ tree-itself t)

pub returns-clause-next : goal.returns-clause-next
returns-clause-next c = next-step

pub returns-clause-normal : goal.returns-clause-normal
returns-clause-normal c = no-step

pub returns-clause-head : goal.returns-clause-head
returns-clause-head c = head-next
