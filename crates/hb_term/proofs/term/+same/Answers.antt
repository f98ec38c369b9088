use Rattle.std.proofs.Common.{ap, arith}
use Rattle.hb_tree.specs.Tree.{depth}
use Rattle.hb_term.specs.Meaning.{tree}
use Rattle.hb_term.specs.declared.term.Term.{Term}
use Rattle.hb_term.proofs.term.+same.Goals as goal

pub Term::same-same-requires : goal.Term::same-same-requires
Term::same-same-requires t c = (omega (arith, c.loop-left.invariant.within, ap (λ (x : Term). depth (tree x)) c.in-Pi-Pi.is-0), tt)

pub Term::same-same-requires-in-Lam-Lam : goal.Term::same-same-requires-in-Lam-Lam
Term::same-same-requires-in-Lam-Lam t c = (omega (arith, c.loop-left.invariant.within, ap (λ (x : Term). depth (tree x)) c.in-Lam-Lam.is-0), tt)

pub Term::same-same-requires-in-App-App : goal.Term::same-same-requires-in-App-App
Term::same-same-requires-in-App-App t c = (omega (arith, c.loop-left.invariant.within, ap (λ (x : Term). depth (tree x)) c.in-App-App.is-0), tt)
