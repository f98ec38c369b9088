use Rattle.std.proofs.Common.{◌≡◌, ◌∙◌, sym, subst, List, []}
use Rattle.std.specs.Prelude.{Result, Ok, Err, IfOk, OnOk}
use Rattle.hb_tree.specs.Tree.{Tree}
use Rattle.hb_calculus.specs.Declarations.{Decl}
use Rattle.hb_reduce.specs.declared.rule.Rule.{Rule}
use Rattle.hb_reduce.specs.declared.rule.Rule.TheVariants.{Eta}
use Rattle.hb_reduce.specs.Frames.{Frame, plug}
use Rattle.hb_reduce.specs.Rules.{rule_of, IsClear, At}
use Rattle.hb_reduce.proofs.normal.replace.Goals as goal

at-rule : {X : Type 0} (rule s : Rule) (E : List Decl) (w : Tree) (fs : List Frame) (r : Result Tree X) → rule ≡ s
    → IfOk r (λ p. At (rule_of s E) w fs p) → IfOk r (λ p. At (rule_of rule E) w fs p)
at-rule rule s E w fs r e h = subst (λ x. IfOk r (λ p. At (rule_of x E) w fs p)) (sym e) h

closed : {X : Type 0} (E : List Decl) (w : Tree) (fs : List Frame) (r : Result Tree X) → IfOk r (λ p. p ≡ w) → OnOk r (fs ≡ [])
    → IfOk r (λ p. At (rule_of Eta E) w fs p)
closed E w fs (Ok p) e t =
    record {
      whole = sym e ∙ sym (λ i. plug (t i) p);
      clear = subst (λ xs. IsClear (rule_of Eta E) xs p) (sym t) tt;
    }
closed E w fs (Err x) e t = h
  where
    h : IfOk {T = Tree} (Err x) (λ p. At (rule_of Eta E) w fs p)
    h = e

pub returns-in-Step : goal.returns-in-Step
returns-in-Step c = at-rule _ _ _ _ _ _ c.in-Step.is c.settle.ensures.at

pub returns-in-Eta : goal.returns-in-Eta
returns-in-Eta c = at-rule _ _ _ _ _ _ c.in-Eta.is (closed _ _ _ _ c.close.ensures.whole c.close.ensures.top)
