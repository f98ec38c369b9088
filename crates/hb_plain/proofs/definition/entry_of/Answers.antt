use Rattle.std.proofs.Common.{refl}
use Rattle.hb_calculus.specs.Declarations.{a_definition}
use Rattle.hb_term.specs.Meaning.{tree}
use Rattle.hb_plain.proofs.definition.entry_of.Goals as goal

pub returns-clause-declared : goal.returns-clause-declared
returns-clause-declared c =
    let t = tree c.in_ok-ty.ty in
    let b = tree c.in_ok-ty.body in
    (a_definition c.args.name.name.0 t b, rw (c.in_ok-push.ensures.items, c.new-decls.ensures.items) refl, (t, b, refl, c.in_ok-ty.ensures))
