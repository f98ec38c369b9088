use Rattle.std.proofs.Common.{ap}
use Rattle.std.proofs.lemmas.Result.{err_from_is_err_and}
use Rattle.std.specs.Option.{option_map}
use Rattle.hb_world.specs.Worlds.{opened}
use Rattle.hb_builder.specs.Refusing.{loaded_not_factory, loaded_not_ended}
use Rattle.hb_builder.proofs.RefuseLemmas.{a_section, still_refused}
use Rattle.hb_builder.proofs.replaying.replay.Goals as goal

pub returns-in_err-known-in-Builders-clause-refused :
    goal.returns-in_err-known-in-Builders-clause-refused
returns-in_err-known-in-Builders-clause-refused c =
    let p = err_from_is_err_and c.from_residual-in_err-known-in-Builders.result c.from_residual-in_err-known-in-Builders.ensures.1 in
    rw (p.1, p.2, c.in-Builders.is) (loaded_not_factory (ap (option_map opened) c.in_ok-outside_section-in-Builders.ensures.outside) c.in_err-known-in-Builders.ensures.refused)

pub returns-in_ok-without_decls-in-End-clause-refused :
    goal.returns-in_ok-without_decls-in-End-clause-refused
returns-in_ok-without_decls-in-End-clause-refused c =
    rw c.in-End.is
    (still_refused _ _ c.end.result (λ r h. loaded_not_ended (a_section _ _ c.in_ok-_section-in-End.ensures.inside) c.in_ok-without_decls-in-End.ensures.none h) c.end.ensures.refused)
