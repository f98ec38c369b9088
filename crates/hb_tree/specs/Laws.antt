-- The laws of lifting and substitution with de Bruijn numbers (Barras, "Coq in Coq"; Huet, "Constructive Computation Theory").
use Rattle.std.specs.Prelude.{◌≡◌, ℕ, false, ◌+◌, ◌≤◌}
use Rattle.hb_tree.specs.Tree.{Tree, lift, subst_at, loose, occurs}

-- lifting by no variables changes nothing
abbrev pub LiftByZero : Type 0
LiftByZero = (t : Tree) (k : ℕ) → lift t 0 k ≡ t

-- two lifts at one place are one lift by the sum
abbrev pub LiftsAdd : Type 0
LiftsAdd = (t : Tree) (m n k : ℕ) → lift (lift t m k) n k ≡ lift t (m + n) k

-- two lifts commute, where the outer place moves over what the inner one puts in
abbrev pub LiftsCommute : Type 0
LiftsCommute = (t : Tree) (m n k j : ℕ) → k ≤ j → lift (lift t m k) n (j + m) ≡ lift (lift t n j) m k

-- a lift outside of what is substituted goes into the term and into the value
abbrev pub LiftOfSubst : Type 0
LiftOfSubst = (t a : Tree) (n k j : ℕ) → lift (subst_at t a j) n (k + j) ≡ subst_at (lift t n (k + j + 1)) (lift a n k) j

-- a variable that lifting has put in doesn't stand in the term: any value for it gives the term back
abbrev pub SubstOfLift : Type 0
SubstOfLift = (t a : Tree) (k : ℕ) → subst_at (lift t 1 k) a k ≡ t

-- two substitutions commute, where the outer value goes into the inner one
abbrev pub SubstsCommute : Type 0
SubstsCommute = (t a b : Tree) (k j : ℕ) → subst_at (subst_at t a j) b (k + j) ≡ subst_at (subst_at t b (k + j + 1)) (subst_at a b k) j

-- where every variable is bound further in, lifting and substituting change nothing and no variable occurs
pub record ClosedStays (t : Tree) (k : ℕ) : Type 0 where
  pub lifted : (n : ℕ) → lift t n k ≡ t
  pub substituted : (a : Tree) → subst_at t a k ≡ t
  pub absent : (j : ℕ) → k ≤ j → occurs t j ≡ false

abbrev pub ClosedTermsStay : Type 0
ClosedTermsStay = (t : Tree) (k : ℕ) → loose t ≤ k → ClosedStays t k
