use Rattle.std.proofs.Common.{arith}
use Rattle.hb_calculus.specs.Declarations.{names_of}
use Rattle.hb_env.specs.Plain.{plain}
use Rattle.hb_env.proofs.NameLemmas.{names_few}
use Rattle.hb_env.proofs.TableLemmas.{entered_more}
use Rattle.hb_env.proofs.names.enter.Goals as goal

pub role_of-requires : goal.role_of-requires
role_of-requires c = omega (arith, names_few (plain c.args.decl.now))

pub loop-i-preserved : goal.loop-i-preserved
loop-i-preserved c =
    rw
    (c.from.ensures, c.role_of.ensures)
    (entered_more c.args.at (names_of (plain c.args.decl.now)) c.loop-i.i c.name_at.result.0 c.args.table.now c.loop-i.table c.loop-i.invariant c.name_at.ensures)
