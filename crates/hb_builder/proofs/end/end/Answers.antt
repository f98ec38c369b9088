use Rattle.std.proofs.Common.{◌<◌, length, ap, refl, arith}
use Rattle.std.specs.Option.{option_map}
use Rattle.hb_world.specs.Worlds.{opened}
use Rattle.hb_builder.specs.Refusing.{no_such_factory, not_ended}
use Rattle.hb_builder.proofs.end.end.Goals as goal

pub returns-then-section-factories-clause-refused :
    goal.returns-then-section-factories-clause-refused
returns-then-section-factories-clause-refused c =
    let n = c.factories.ensures.count in
    let t = c.if-section-factories.true in
    no_such_factory (opened c.in-Some.section) (ap (option_map opened) c.in-Some.is) (λ l. absurd (omega (arith, l, n, t))) c.refused-then-section-factories.ensures

pub returns-in-Err-clause-refused : goal.returns-in-Err-clause-refused
returns-in-Err-clause-refused c =
    let n = c.factories.ensures.count in
    let f = c.if-section-factories.false in
    let l : c.in-Some.section.factory.0 < length c.args.world.now.hier.factories = omega (arith, n, f) in
    not_ended (opened c.in-Some.section) (ap (option_map opened) c.in-Some.is) l
    (record { cause = c.in-Err.fault; refused = c.in-Err.ensures.refused; refusal = rw (c.refused-in-Err.ensures, c.of_hierarchy.ensures, c.in-Err.ensures.unchanged) refl })
