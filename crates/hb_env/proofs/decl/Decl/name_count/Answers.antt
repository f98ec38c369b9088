use Rattle.std.proofs.Common.{arith}
use Rattle.hb_env.proofs.ListLemmas.{length_field_names}
use Rattle.hb_env.proofs.decl.Decl.name_count.Goals as goal

pub returns-in-Record : goal.returns-in-Record
returns-in-Record c =
    rw c.in-Record.is (omega (arith, c.len.ensures, length_field_names c.in-Record.fields.items, c.in-Record.fields.ok))
