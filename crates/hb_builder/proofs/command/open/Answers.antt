use Rattle.std.proofs.Common.{ap}
use Rattle.std.proofs.lemmas.Result.{err_from_is_err_and}
use Rattle.std.specs.Option.{option_map}
use Rattle.hb_world.specs.Worlds.{opened}
use Rattle.hb_builder.specs.Refusing.{not_factory}
use Rattle.hb_builder.proofs.command.open.Goals as goal

pub returns-in_err-factory-clause-refused : goal.returns-in_err-factory-clause-refused
returns-in_err-factory-clause-refused c =
    let p = err_from_is_err_and c.from_residual-in_err-factory.result c.from_residual-in_err-factory.ensures.1 in
    rw (p.1, p.2) (not_factory (ap (option_map opened) c.in_ok-outside_section.ensures.outside) c.in_err-factory.ensures.refused)
