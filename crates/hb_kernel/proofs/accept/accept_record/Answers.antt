use Rattle.std.proofs.Common.{◌∙◌, sym}
use Rattle.hb_term.specs.Meaning.{tree}
use Rattle.hb_calculus.specs.Budget.{budget}
use Rattle.hb_env.specs.Plain.{trees, plain_fields}
use Rattle.hb_kernel.proofs.AcceptLemmas.{record-fault, record-accepted, level-refused}
use Rattle.hb_kernel.proofs.accept.accept_record.Goals as goal

pub returns-in-Err-clause-fault : goal.returns-in-Err-clause-fault
returns-in-Err-clause-fault c =
    record-fault c.args.env.now (budget c.args.limits.now) c.args.level (trees c.args.params.now) (plain_fields c.args.fields.now) c.in-Err.fault c.in-Err.ensures.fault

pub returns-then-least-level-clause-accepted : goal.returns-then-least-level-clause-accepted
returns-then-least-level-clause-accepted c =
    record-accepted c.args.env.now (budget c.args.limits.now) c.args.level c.in-Ok.least (trees c.args.params.now) (plain_fields c.args.fields.now) c.in-Ok.ensures.level c.if-least-level.true

pub returns-else-least-level-clause-fault : goal.returns-else-least-level-clause-fault
returns-else-least-level-clause-fault c = (
  level-refused c.args.env.now (budget c.args.limits.now) c.args.level c.in-Ok.least (trees c.args.params.now) (plain_fields c.args.fields.now) (tree c.level_sort.result.term) (tree c.level_sort-else-least-level.result.term) c.level_sort.result.depth
      c.level_sort.ensures.depth c.in-Ok.ensures.level c.if-least-level.false c.level_sort.ensures.term c.level_sort-else-least-level.ensures.term,
  c.level_sort-else-least-level.ensures.depth ∙ sym c.level_sort.ensures.depth,
)
