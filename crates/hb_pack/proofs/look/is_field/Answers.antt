use Rattle.std.proofs.Common.{sym, arith}
use Rattle.std.proofs.lemmas.Bool.Decides.{nat_tests}
use Rattle.hb_pack.proofs.LookLemmas.{has_field}
use Rattle.hb_pack.proofs.look.is_field.Goals as goal

pub returns-in-Some-Record : goal.returns-in-Some-Record
returns-in-Some-Record c lt =
    let found = rw c.in-Some-Record.field-0-is at c.in-Some-Record.ensures in
    has_field c.args.env.now c.args.rec.0 c.args.field _ _ _ _ c.in-Some-Record.fields.items (sym found) (grind (arith, nat_tests))
