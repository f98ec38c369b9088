use Rattle.std.proofs.Common.{refl, arith}
use Rattle.hb_reader.proofs.MeasureLemmas.{list_leaf}
use Rattle.hb_reader.proofs.kind.Kind.measure.Goals as goal

pub returns-in-List : goal.returns-in-List
returns-in-List c = λ w.
    rw (c.in-List.is, list_leaf c.in-List.field-0 c.args.mark w, c.flat-in-List.ensures) (refl, refl)

pub returns-in-Row : goal.returns-in-Row
returns-in-Row c = λ w.
    rw (c.in-Row.is, c.nesting.ensures w, c.flat-in-Row.ensures) (omega arith, refl)

pub returns-in-Term : goal.returns-in-Term
returns-in-Term c = λ w. rw c.in-Term.is (c.measure.ensures w)

pub returns-in-Binder : goal.returns-in-Binder
returns-in-Binder c = λ w. rw c.in-Binder.is (c.measure-in-Binder.ensures w)

pub returns-in-Instance : goal.returns-in-Instance
returns-in-Instance c = λ w. rw c.in-Instance.is (c.measure-in-Instance.ensures w)
