use Rattle.hb_calculus.specs.Declarations.{field_names}
use Rattle.hb_env.specs.Plain.{plain, plain_fields}
use Rattle.hb_mixin.proofs.NamingLemmas.{fields_stay, made_is}
use Rattle.hb_mixin.proofs.declaring.record_for.Goals as goal

pub returns-in-Ok-clause-made : goal.returns-in-Ok-clause-made
returns-in-Ok-clause-made c all =
    rw c.in-Ok.ensures
    (made_is c.maker_name.new.names c.args.env.now c.args.world.now.hier c.args.naming.kind c.args.naming.items.now c.args.naming.shorts.now c.args.naming.name c.in_ok-maker.maker _
    c.args.fields.items (plain c.in_ok-decl.decl) c.in_ok-maker.ensures.unique c.in_ok-maker.ensures.number
    (fields_stay c.args.world.now.names c.maker_name.new.names c.args.naming.name c.args.naming.shorts.now (field_names (plain_fields c.args.fields.items)) c.maker_name.ensures.kept all)
    c.in_ok-decl.ensures.made)
