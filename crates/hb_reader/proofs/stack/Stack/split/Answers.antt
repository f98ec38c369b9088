use Rattle.std.proofs.Common.{ap, sym, ◌∙◌}
use Rattle.hb_reader.specs.Frames.{base_of, frames_on}
use Rattle.hb_reader.proofs.FrameLemmas.{frames_on-more, last-kept, others-kept}
use Rattle.hb_reader.proofs.stack.Stack.split.Goals as goal

pub invariant_of-stack : goal.invariant_of-stack
invariant_of-stack c =
    let k = base_of c.args.self.base in
    let fs = c.pop.new.self.items in
    let f = c.in-Some.field-0 in
    let e = rw c.in-Some.ensures.items at c.args.self.kept in
    record { counted = last-kept fs k f e; kept = others-kept fs k f e }

pub returns-in-Some-clause-same : goal.returns-in-Some-clause-same
returns-in-Some-clause-same c =
    let k = base_of c.args.self.base in
    sym (ap (frames_on k) c.in-Some.ensures.items ∙ frames_on-more c.pop.new.self.items k c.in-Some.field-0)
