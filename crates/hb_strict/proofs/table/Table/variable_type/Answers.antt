use Rattle.std.proofs.Common.{◌≡◌, ◌+◌, Some, slice_get, arith, rules}
use Rattle.hb_strict.proofs.TableLemmas.{read_of, passes, is_innermost}
use Rattle.hb_strict.proofs.table.Table.variable_type.Goals as goal

pub loop-passed-init : goal.loop-passed-init
loop-passed-init c = λ G g. g

pub loop-passed-preserved : goal.loop-passed-preserved
loop-passed-preserved c =
    λ G g.
    let r : slice_get c.args.self.now.contexts.items c.in_ok-checked_sub.field-0 ≡ Some c.in-Some.context.now =
    rw c.deref.ensures.value at (read_of c.deref.result.now c.in_ok-checked_sub.field-0 c.in-Some.context.now c.in-Some.ensures.lookup.0 c.in-Some.ensures.lookup.1)
    in
    let n : c.loop-passed.now ≡ c.in_ok-checked_sub.field-0 + 1 = omega (arith, c.in_ok-checked_sub.ensures.0, c.in_ok-checked_sub.ensures.1) in
    passes c.args.self.now.contexts.items c.loop-passed.now c.in_ok-checked_sub.field-0 c.loop-passed._passed c.in-Some.context.now G (c.loop-passed.invariant G g) r n

pub returns-in-Some-get : goal.returns-in-Some-get
returns-in-Some-get c =
    λ G g.
    let r : slice_get c.args.self.now.contexts.items c.in_ok-checked_sub-2.field-0 ≡ Some c.in-Some-get.context.now =
    rw c.deref-2.ensures.value at (read_of c.deref-2.result.now c.in_ok-checked_sub-2.field-0 c.in-Some-get.context.now c.in-Some-get.ensures.lookup.0 c.in-Some-get.ensures.lookup.1)
    in
    let n : c.loop-passed.now ≡ c.in_ok-checked_sub-2.field-0 + 1 = omega (arith, c.in_ok-checked_sub-2.ensures.0, c.in_ok-checked_sub-2.ensures.1) in
    let p : c.loop-passed._passed ≡ c.args.variable = search rules in
    is_innermost c.args.self.now.contexts.items c.loop-passed.now c.in_ok-checked_sub-2.field-0 c.loop-passed._passed c.args.variable c.in-Some-get.context.now G
    (c.loop-passed.invariant G g) r n p
