-- Two types that are not in order.
use Rattle.std.proofs.Common.{◌≡◌, List, subst, sym, ⊎_elim}
use Rattle.hb_tree.specs.Tree.{Tree}
use Rattle.hb_term.specs.Meaning.{tree}
use Rattle.hb_term.specs.declared.scoped.Scoped.{Scoped}
use Rattle.hb_calculus.specs.Declarations.{Decl}
use Rattle.hb_calculus.specs.Budget.{Budget}
use Rattle.hb_calculus.specs.Conversion.{Ordered}
use Rattle.hb_calculus.specs.Sequence.{IsNormalForm}
use Rattle.hb_calculus.specs.Inference.{NotBelow, below_spent, below_spent_second, below_differ, spent, not_convertible}
use Rattle.hb_calculus.proofs.Stages.{last-one}
use Rattle.hb_convert.specs.Answers.{AreApart, IsFirstSpent}
use Rattle.hb_kernel.specs.Asks.{NotBelowAt}

pub apart-not-below : (E : List Decl) (L : Budget) (a b x y : Tree) → AreApart Ordered E L a b → IsNormalForm E a x → IsNormalForm E b y → NotBelow E L a b (not_convertible x y)
apart-not-below E L a b x y r p q =
    below_differ r.within_first r.within_second p q
    (λ o. r.apart (subst (λ z. Ordered z r.second) (last-one E a x r.first p r.first_is) (subst (λ z. Ordered x z) (last-one E b y r.second q r.second_is) o)))

pub spent-not-below : (E : List Decl) (L : Budget) (a b k : Scoped) → b.depth ≡ a.depth → IsFirstSpent E L a b k → NotBelowAt E L a b (spent (tree k.term)) k.depth
spent-not-below E L a b k e h =
    ⊎_elim
    (λ p. (subst (λ t. NotBelow E L (tree a.term) (tree b.term) (spent t)) (sym p.0.term) (below_spent p.1), p.0.depth))
    (λ p. (
      subst (λ t. NotBelow E L (tree a.term) (tree b.term) (spent t)) (sym p.1.term) (below_spent_second p.0 p.2),
      subst (λ n. k.depth ≡ n) e p.1.depth,
    ))
    h
