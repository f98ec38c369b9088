use Rattle.std.proofs.Common.{◌<◌, ◌^◌, arith, ap, length}
use Rattle.std.proofs.Math.ListN.{length-map}
use Rattle.hb_term.specs.Meaning.{tree}
use Rattle.hb_calculus.specs.Declarations.{all_nodes, terms_of, field_types}
use Rattle.hb_env.specs.Plain.{plain, trees, plain_fields}
use Rattle.hb_env.proofs.ListLemmas.{all_nodes_append, long_nodes, length_field_types}
use Rattle.hb_env.proofs.decl.Decl.type_of.Goals as goal

pub maker_type-requires : goal.maker_type-requires
maker_type-requires c =
    let h : all_nodes (terms_of (plain c.args.self.now)) < 2 ^ 32 = c.requires in
    let r = rw c.in-Record.is at h in
    let ps = c.in-Record.params.items in
    let fs = c.in-Record.fields.items in
    omega (arith, r, ap length c.deref.ensures.value, ap length c.deref-then-c.ensures.value, all_nodes_append (trees ps) (field_types (plain_fields fs)), long_nodes (trees ps), long_nodes (field_types (plain_fields fs)), length-map ps tree, length_field_types fs)
