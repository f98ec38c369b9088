-- Reduced terms stay in their scope.
use Rattle.std.proofs.Common.{◌≡◌, sym, subst, ℕ, ◌≤◌, List, arith}
use Rattle.hb_tree.specs.Tree.{Tree, loose}
use Rattle.hb_calculus.specs.Declarations.{Decl}
use Rattle.hb_calculus.specs.Scope.{AreBodiesClosed}
use Rattle.hb_calculus.specs.Budget.{Budget}
use Rattle.hb_calculus.specs.Inference.{HeadIs}
use Rattle.hb_calculus.proofs.Loose.{head_form-loose, normal_form-loose}
use Rattle.hb_reduce.specs.Progress.{NormalIs}

module _ (E : List Decl) (closed : AreBodiesClosed E) (L : Budget) where
  pub head-scope : (x t u v : Tree) (m d : ℕ) → HeadIs E L x u → x ≡ t → loose t ≤ m → d ≡ m → v ≡ u → loose v ≤ d
  head-scope x t u v m d h e l p q =
      let k : loose u ≤ m = head_form-loose E closed m x u h.form (subst (λ y. loose y ≤ m) (sym e) l) in
      subst (λ y. loose y ≤ d) (sym q) (let r : loose u ≤ d = omega arith in r)

  pub normal-scope : (x t u v : Tree) (m d : ℕ) → NormalIs E L x u → x ≡ t → loose t ≤ m → d ≡ m → v ≡ u → loose v ≤ d
  normal-scope x t u v m d h e l p q =
      let k : loose u ≤ m = normal_form-loose E closed m x u h.form (subst (λ y. loose y ≤ m) (sym e) l) in
      subst (λ y. loose y ≤ d) (sym q) (let r : loose u ≤ d = omega arith in r)
