use Rattle.std.proofs.Common.{arith, sym, nat_eq}
use Rattle.hb_hier.specs.Hierarchy.{undeclared}
use Rattle.hb_hier.proofs.PlaceLemmas.{position-found, position-none}
use Rattle.hb_hier.proofs.look.place_of_declaration.Goals as goal

pub returns-then-is_declared_as : goal.returns-then-is_declared_as
returns-then-is_declared_as c =
    sym (position-found (λ d. nat_eq d.name.0 c.args.name.0) c.args.list.now.items undeclared c.loop-at.at (omega arith) (sym c.if-is_declared_as.ensures) c.loop-at.invariant)

pub returns : goal.returns
returns c =
    sym (position-none (λ d. nat_eq d.name.0 c.args.name.0) c.args.list.now.items undeclared c.loop-at.at (omega arith) (omega arith) c.loop-at.invariant)
