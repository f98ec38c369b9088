use Rattle.std.proofs.Common.{arith}
use Rattle.hb_calculus.specs.Declarations.{field_types}
use Rattle.hb_env.specs.Plain.{trees, plain_fields}
use Rattle.hb_env.proofs.ListLemmas.{all_nodes_append}
use Rattle.hb_env.proofs.decl.Decl.nodes.Goals as goal

pub returns-in-Record : goal.returns-in-Record
returns-in-Record c =
    let p = rw c.deref.ensures.value at c.type_nodes.ensures in
    let q = rw c.deref-in-Record.ensures.value at c.field_nodes.ensures in
    rw
    c.in-Record.is
    (omega (arith, p, q, c.saturating_add-in-Record.ensures, all_nodes_append (trees c.in-Record.params.items) (field_types (plain_fields c.in-Record.fields.items))))
