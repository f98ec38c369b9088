use Rattle.std.proofs.Common.{refl}
use Rattle.hb_calculus.specs.Declarations.{an_axiom}
use Rattle.hb_term.specs.Meaning.{tree}
use Rattle.hb_plain.proofs.axiom.entry_of.Goals as goal

pub returns-clause-declared : goal.returns-clause-declared
returns-clause-declared c =
    (an_axiom c.args.name.name.0 (tree c.args.ty), rw (c.in_ok-push.ensures.items, c.new-decls.ensures.items) refl, (tree c.args.ty, refl))
