-- Terms at places.
use Rattle.std.proofs.Common.{◌≡◌, ◌∙◌, refl, ap, ℕ, ◌+◌, max, List, [], ◌∷◌, length, arith}
use Rattle.std.specs.Prelude.{Option, Some, None, option_map}
use Rattle.std.specs.Option.{option_or}
use Rattle.hb_tree.specs.Tree.{Tree, sort, rel, pi, lam, app, const, proj, hole, nodes, depth}
use Rattle.hb_tree.specs.declared.leaves.RecId.{RecId}
use Rattle.hb_calculus.specs.Contraction.{leftmost}
use Rattle.hb_reduce.specs.declared.former.Former.{Former}
use Rattle.hb_reduce.specs.declared.former.Former.TheVariants.{Product, Function, Application}
use Rattle.hb_reduce.specs.Frames.{make, Frame, left, right, under, wrap, plug, own_nodes, around, own_depth, reach}
use Rattle.hb_reduce.specs.Rules.{IsClear, IsFound}

nodes_made : (c : Former) (a b : Tree) → nodes (make c a b) ≡ nodes a + nodes b + 1
nodes_made Product a b = refl
nodes_made Function a b = refl
nodes_made Application a b = refl

depth_made : (c : Former) (a b : Tree) → depth (make c a b) ≡ max (depth a) (depth b) + 1
depth_made Product a b = refl
depth_made Function a b = refl
depth_made Application a b = refl

pub nodes_wrap : (f : Frame) (t : Tree) → nodes (wrap f t) ≡ nodes t + own_nodes f
nodes_wrap (left c b) t = omega (arith, nodes_made c t b)
nodes_wrap (right c a) t = omega (arith, nodes_made c a t)
nodes_wrap (under r i) t = refl

depth_wrap : (f : Frame) (t : Tree) → depth (wrap f t) ≡ max (depth t) (own_depth f) + 1
depth_wrap (left c b) t = depth_made c t b
depth_wrap (right c a) t = omega (arith, depth_made c a t)
depth_wrap (under r i) t = omega arith

pub nodes_plug : (fs : List Frame) (t : Tree) → nodes (plug fs t) ≡ around fs + nodes t
nodes_plug [] t = omega arith
nodes_plug (f ∷ fs) t = omega (arith, nodes_plug fs (wrap f t), nodes_wrap f t)

pub depth_plug : (fs : List Frame) (t : Tree) → depth (plug fs t) ≡ max (reach fs) (length fs + depth t)
depth_plug [] t = omega arith
depth_plug (f ∷ fs) t = omega (arith, depth_plug fs (wrap f t), depth_wrap f t)

module _ (rule : Tree → Option Tree) where
  first-of : (p : Option Tree) (f : Tree → Tree) (q z : Option Tree) (x : Tree) → p ≡ None → q ≡ Some x → option_or p (option_or (option_map f q) z) ≡ Some (f x)
  first-of p f q z x e g = ap (λ o. option_or o (option_or (option_map f q) z)) e ∙ ap (λ o. option_or (option_map f o) z) g

  second-of :
      (p : Option Tree) (f : Tree → Tree) (q : Option Tree) (g : Tree → Tree) (r : Option Tree) (x : Tree) → p ≡ None → q ≡ None
      → r ≡ Some x → option_or p (option_or (option_map f q) (option_map g r)) ≡ Some (g x)
  second-of p f q g r x e h k =
      ap (λ o. option_or o (option_or (option_map f q) (option_map g r))) e
      ∙ ap (λ o. option_or (option_map f o) (option_map g r)) h
      ∙ ap (option_map g) k

  none-of :
      (p : Option Tree) (f : Tree → Tree) (q : Option Tree) (g : Tree → Tree) (r : Option Tree) → p ≡ None → q ≡ None
      → r ≡ None → option_or p (option_or (option_map f q) (option_map g r)) ≡ None
  none-of p f q g r e h k =
      ap (λ o. option_or o (option_or (option_map f q) (option_map g r))) e
      ∙ ap (λ o. option_or (option_map f o) (option_map g r)) h
      ∙ ap (option_map g) k

  left-made :
      (c : Former) (t b u : Tree) → rule (make c t b) ≡ None → leftmost rule t ≡ Some u → leftmost rule (make c t b) ≡ Some (make c u b)
  left-made Product t b u e h = first-of (rule (pi t b)) (λ x. pi x b) (leftmost rule t) _ u e h
  left-made Function t b u e h = first-of (rule (lam t b)) (λ x. lam x b) (leftmost rule t) _ u e h
  left-made Application t b u e h = first-of (rule (app t b)) (λ x. app x b) (leftmost rule t) _ u e h

  right-made :
      (c : Former) (a t u : Tree) → rule (make c a t) ≡ None → leftmost rule a ≡ None → leftmost rule t ≡ Some u
      → leftmost rule (make c a t) ≡ Some (make c a u)
  right-made Product a t u e h k = second-of (rule (pi a t)) (λ x. pi x t) (leftmost rule a) (λ x. pi a x) (leftmost rule t) u e h k
  right-made Function a t u e h k = second-of (rule (lam a t)) (λ x. lam x t) (leftmost rule a) (λ x. lam a x) (leftmost rule t) u e h k
  right-made Application a t u e h k = second-of (rule (app a t)) (λ x. app x t) (leftmost rule a) (λ x. app a x) (leftmost rule t) u e h k

  pub none-made :
      (c : Former) (a t : Tree) → rule (make c a t) ≡ None → leftmost rule a ≡ None → leftmost rule t ≡ None → leftmost rule (make c a t) ≡ None
  none-made Product a t e h k = none-of (rule (pi a t)) (λ x. pi x t) (leftmost rule a) (λ x. pi a x) (leftmost rule t) e h k
  none-made Function a t e h k = none-of (rule (lam a t)) (λ x. lam x t) (leftmost rule a) (λ x. lam a x) (leftmost rule t) e h k
  none-made Application a t e h k = none-of (rule (app a t)) (λ x. app x t) (leftmost rule a) (λ x. app a x) (leftmost rule t) e h k

  pub none-under : (r : RecId) (i : ℕ) (t : Tree) → rule (proj r i t) ≡ None → leftmost rule t ≡ None → leftmost rule (proj r i t) ≡ None
  none-under r i t e h =
      ap (λ o. option_or o (option_map (λ x. proj r i x) (leftmost rule t))) e ∙ ap (option_map (λ x. proj r i x)) h

  -- what the rule gives at a clear place is what it gives of the whole
  pub leftmost-plug :
      (fs : List Frame) (t u : Tree) → IsClear rule fs t → leftmost rule t ≡ Some u → leftmost rule (plug fs t) ≡ Some (plug fs u)
  leftmost-plug [] t u h e = e
  leftmost-plug (left c b ∷ fs) t u h e = leftmost-plug fs (make c t b) (make c u b) h.1 (left-made c t b u h.0 e)
  leftmost-plug (right c a ∷ fs) t u h e = leftmost-plug fs (make c a t) (make c a u) h.2 (right-made c a t u h.0 h.1 e)
  leftmost-plug (under r i ∷ fs) t u h e =
      leftmost-plug fs (proj r i t) (proj r i u) h.1
      (ap (λ o. option_or o (option_map (λ x. proj r i x) (leftmost rule t))) h.0 ∙ ap (option_map (λ x. proj r i x)) e)

  or-first : (p z : Option Tree) (u : Tree) → p ≡ Some u → option_or p z ≡ Some u
  or-first p z u e = ap (λ o. option_or o z) e

  pub first-here : (t u : Tree) → rule t ≡ Some u → leftmost rule t ≡ Some u
  first-here (sort s) u e = e
  first-here (rel v) u e = e
  first-here (pi a b) u e = or-first (rule (pi a b)) _ u e
  first-here (lam a b) u e = or-first (rule (lam a b)) _ u e
  first-here (app f a) u e = or-first (rule (app f a)) _ u e
  first-here (const c) u e = e
  first-here (proj r i t) u e = or-first (rule (proj r i t)) _ u e
  first-here (hole h) u e = e

  pub found-leftmost : (w : Tree) (fs : List Frame) (u : Tree) → IsFound rule w fs u → leftmost rule w ≡ Some (plug fs u)
  found-leftmost w fs u f =
      ap (leftmost rule) f.at.whole ∙ leftmost-plug fs f.part u f.at.clear (first-here f.part u f.made)
