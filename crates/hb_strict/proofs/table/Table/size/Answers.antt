use Rattle.std.proofs.Common.{◌≡◌, ◌+◌, Some, [], slice_get, arith}
use Rattle.hb_strict.specs.Tables.{no_variables}
use Rattle.hb_strict.proofs.TableLemmas.{zero_of, read_of, has_context_at}
use Rattle.hb_strict.proofs.table.Table.size.Goals as goal

pub returns-in_default : goal.returns-in_default
returns-in_default c = λ t h. let z : c.args.context ≡ 0 = zero_of c.args.context c.in_default.ensures in ([], rw z no_variables)

pub returns-in-Some-get : goal.returns-in-Some-get
returns-in-Some-get c =
    λ t h.
    let r : slice_get c.args.self.now.contexts.items c.in-Some.at ≡ Some c.in-Some-get.context.now =
    rw c.deref.ensures.value at (read_of c.deref.result.now c.in-Some.at c.in-Some-get.context.now c.in-Some-get.ensures.lookup.0 c.in-Some-get.ensures.lookup.1)
    in
    let n : c.args.context ≡ c.in-Some.at + 1 = omega (arith, c.in-Some.ensures.0, c.in-Some.ensures.1) in
    has_context_at c.args.self.now.contexts.items c.args.context c.in-Some.at c.in-Some-get.context.now h r n
