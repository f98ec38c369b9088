use Rattle.std.proofs.Common.{◌≡◌, ◌++◌, ◌∷◌, [], length, ap, None, arith, rules}
use Rattle.std.proofs.lemmas.List.{length-append}
use Rattle.hb_env.proofs.KeptLemmas.{empty_kept, none_push}
use Rattle.hb_env.proofs.env.Env.new.Goals as goal

pub loop-i-preserved : goal.loop-i-preserved
loop-i-preserved c =
    let e : c.push.new.self.items ≡ c.loop-i.table.items ++ None ∷ [] = search rules in
    record {
      long = omega (arith, ap length e, length-append c.loop-i.table.items (None ∷ []), c.loop-i.invariant.long);
      empty = rw e (none_push c.loop-i.table.items c.loop-i.invariant.empty);
    }

pub invariant_of-result : goal.invariant_of-result
invariant_of-result c = rw c.new.ensures.items (empty_kept c.loop-i.table.items (omega (arith, c.loop-i.invariant.long)) c.loop-i.invariant.empty)
