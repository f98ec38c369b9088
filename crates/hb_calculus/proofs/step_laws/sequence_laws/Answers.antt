use Rattle.hb_calculus.proofs.Sequences.{head_sequence-steps}
use Rattle.hb_calculus.proofs.Stages.{sequence-convertible, head_sequence-sequence}
use Rattle.hb_calculus.proofs.step_laws.sequence_laws.Goals as goal

pub returns-clause-converts : goal.returns-clause-converts
returns-clause-converts c = λ E t u n. sequence-convertible E n t u

pub returns-clause-steps : goal.returns-clause-steps
returns-clause-steps c = λ E t u n. head_sequence-steps E n t u

pub returns-clause-prefix : goal.returns-clause-prefix
returns-clause-prefix c = λ E t u n. head_sequence-sequence E n t u
