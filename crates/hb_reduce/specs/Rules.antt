-- The two phases of a reduction sequence, and where a walk for the leftmost outermost place stands.
use Rattle.std.specs.Prelude.{◌≡◌, List, [], ◌∷◌, Option, Some, None}
use Rattle.hb_tree.specs.Tree.{Tree, proj}
use Rattle.hb_calculus.specs.Declarations.{Decl}
use Rattle.hb_calculus.specs.Contraction.{contract, eta_of, leftmost}
use Rattle.hb_reduce.specs.declared.rule.Rule.{Rule}
use Rattle.hb_reduce.specs.declared.rule.Rule.TheVariants.{Step, Eta}
use Rattle.hb_reduce.specs.Frames.{Frame, left, right, under, make, plug}

-- what a rule makes of the term itself
abbrev pub rule_of : Rule → List Decl → Tree → Option Tree
rule_of Step E t = contract E t
rule_of Eta E t = eta_of E t

-- the rule gives nothing at the formers around t, and nowhere in the parts to the left of it
abbrev pub IsClear : (Tree → Option Tree) → List Frame → Tree → Type 0
IsClear rule [] t = Unit {0}
IsClear rule (left c b ∷ fs) t = (rule (make c t b) ≡ None) × IsClear rule fs (make c t b)
IsClear rule (right c a ∷ fs) t = (rule (make c a t) ≡ None) × (leftmost rule a ≡ None) × IsClear rule fs (make c a t)
IsClear rule (under r i ∷ fs) t = (rule (proj r i t) ≡ None) × IsClear rule fs (proj r i t)

-- the walk through the whole term w stands at the place with t
pub record At (rule : Tree → Option Tree) (w : Tree) (fs : List Frame) (t : Tree) : Type 0 where
  pub whole : w ≡ plug fs t
  pub clear : IsClear rule fs t

-- the leftmost outermost place, where the rule makes u of the term
pub record IsFound (rule : Tree → Option Tree) (w : Tree) (fs : List Frame) (u : Tree) : Type 0 where
  pub part : Tree
  pub at : At rule w fs part
  pub made : rule part ≡ Some u

-- the rule gives nothing anywhere in w
pub record IsDone (rule : Tree → Option Tree) (w : Tree) (fs : List Frame) (u : Tree) : Type 0 where
  pub whole : w ≡ u
  pub top : fs ≡ []
  pub none : leftmost rule u ≡ None
