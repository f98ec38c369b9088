-- How the logic stores a term: its number among the constructors, then its parts.
use Rattle.std.specs.Prelude.{◌≡◌, ◌≢◌, ℕ}
use Rattle.std.proofs.Common.{ap, arith}
use Rattle.std.specs.Coded.{Coded, coded_ℕ}
use base.Stored.{Gv, gnil, gnum, gcons}
use Rattle.hb_tree.specs.contracts.leaves.Sort as sorts
use Rattle.hb_tree.specs.contracts.leaves.ConstId as consts
use Rattle.hb_tree.specs.contracts.leaves.RecId as records
use Rattle.hb_tree.specs.Tree.{Tree, sort, rel, pi, lam, app, const, proj, hole}

-- the first and the second part of a stored pair
abbrev head : Gv → Gv
head gnil = gnil
head (gnum n) = gnil
head (gcons a b) = a

abbrev tail : Gv → Gv
tail gnil = gnil
tail (gnum n) = gnil
tail (gcons a b) = b

-- two numbers of constructors that differ
apart : (m n : ℕ) {a b : Gv} → gcons (gnum m) a ≡ gcons (gnum n) b → m ≢ n → ⊥
apart m n p other = other (cc)

-- a term as it is stored
abbrev pub tree_code : Tree → Gv
tree_code (sort a0) = gcons (gnum 0) (sorts.the_row.coded.code a0)
tree_code (rel a0) = gcons (gnum 1) (coded_ℕ.code a0)
tree_code (pi a0 a1) = gcons (gnum 2) (gcons (tree_code a0) (tree_code a1))
tree_code (lam a0 a1) = gcons (gnum 3) (gcons (tree_code a0) (tree_code a1))
tree_code (app a0 a1) = gcons (gnum 4) (gcons (tree_code a0) (tree_code a1))
tree_code (const a0) = gcons (gnum 5) (consts.the_row.coded.code a0)
tree_code (proj a0 a1 a2) = gcons (gnum 6) (gcons (records.the_row.coded.code a0) (gcons (coded_ℕ.code a1) (tree_code a2)))
tree_code (hole a0) = gcons (gnum 7) (coded_ℕ.code a0)

-- two terms that are stored alike are the same
pub tree_inj : (x y : Tree) → tree_code x ≡ tree_code y → x ≡ y
tree_inj (sort a0) (sort b0) p = λ i. sort (sorts.the_row.coded.inj a0 b0 (ap (λ g. tail g) p) i)
tree_inj (sort a0) (rel b0) p = absurd (apart 0 1 p (omega arith))
tree_inj (sort a0) (pi b0 b1) p = absurd (apart 0 2 p (omega arith))
tree_inj (sort a0) (lam b0 b1) p = absurd (apart 0 3 p (omega arith))
tree_inj (sort a0) (app b0 b1) p = absurd (apart 0 4 p (omega arith))
tree_inj (sort a0) (const b0) p = absurd (apart 0 5 p (omega arith))
tree_inj (sort a0) (proj b0 b1 b2) p = absurd (apart 0 6 p (omega arith))
tree_inj (sort a0) (hole b0) p = absurd (apart 0 7 p (omega arith))
tree_inj (rel a0) (sort b0) p = absurd (apart 1 0 p (omega arith))
tree_inj (rel a0) (rel b0) p = λ i. rel (coded_ℕ.inj a0 b0 (ap (λ g. tail g) p) i)
tree_inj (rel a0) (pi b0 b1) p = absurd (apart 1 2 p (omega arith))
tree_inj (rel a0) (lam b0 b1) p = absurd (apart 1 3 p (omega arith))
tree_inj (rel a0) (app b0 b1) p = absurd (apart 1 4 p (omega arith))
tree_inj (rel a0) (const b0) p = absurd (apart 1 5 p (omega arith))
tree_inj (rel a0) (proj b0 b1 b2) p = absurd (apart 1 6 p (omega arith))
tree_inj (rel a0) (hole b0) p = absurd (apart 1 7 p (omega arith))
tree_inj (pi a0 a1) (sort b0) p = absurd (apart 2 0 p (omega arith))
tree_inj (pi a0 a1) (rel b0) p = absurd (apart 2 1 p (omega arith))
tree_inj (pi a0 a1) (pi b0 b1) p = λ i. pi (tree_inj a0 b0 (ap (λ g. head (tail g)) p) i) (tree_inj a1 b1 (ap (λ g. tail (tail g)) p) i)
tree_inj (pi a0 a1) (lam b0 b1) p = absurd (apart 2 3 p (omega arith))
tree_inj (pi a0 a1) (app b0 b1) p = absurd (apart 2 4 p (omega arith))
tree_inj (pi a0 a1) (const b0) p = absurd (apart 2 5 p (omega arith))
tree_inj (pi a0 a1) (proj b0 b1 b2) p = absurd (apart 2 6 p (omega arith))
tree_inj (pi a0 a1) (hole b0) p = absurd (apart 2 7 p (omega arith))
tree_inj (lam a0 a1) (sort b0) p = absurd (apart 3 0 p (omega arith))
tree_inj (lam a0 a1) (rel b0) p = absurd (apart 3 1 p (omega arith))
tree_inj (lam a0 a1) (pi b0 b1) p = absurd (apart 3 2 p (omega arith))
tree_inj (lam a0 a1) (lam b0 b1) p = λ i. lam (tree_inj a0 b0 (ap (λ g. head (tail g)) p) i) (tree_inj a1 b1 (ap (λ g. tail (tail g)) p) i)
tree_inj (lam a0 a1) (app b0 b1) p = absurd (apart 3 4 p (omega arith))
tree_inj (lam a0 a1) (const b0) p = absurd (apart 3 5 p (omega arith))
tree_inj (lam a0 a1) (proj b0 b1 b2) p = absurd (apart 3 6 p (omega arith))
tree_inj (lam a0 a1) (hole b0) p = absurd (apart 3 7 p (omega arith))
tree_inj (app a0 a1) (sort b0) p = absurd (apart 4 0 p (omega arith))
tree_inj (app a0 a1) (rel b0) p = absurd (apart 4 1 p (omega arith))
tree_inj (app a0 a1) (pi b0 b1) p = absurd (apart 4 2 p (omega arith))
tree_inj (app a0 a1) (lam b0 b1) p = absurd (apart 4 3 p (omega arith))
tree_inj (app a0 a1) (app b0 b1) p = λ i. app (tree_inj a0 b0 (ap (λ g. head (tail g)) p) i) (tree_inj a1 b1 (ap (λ g. tail (tail g)) p) i)
tree_inj (app a0 a1) (const b0) p = absurd (apart 4 5 p (omega arith))
tree_inj (app a0 a1) (proj b0 b1 b2) p = absurd (apart 4 6 p (omega arith))
tree_inj (app a0 a1) (hole b0) p = absurd (apart 4 7 p (omega arith))
tree_inj (const a0) (sort b0) p = absurd (apart 5 0 p (omega arith))
tree_inj (const a0) (rel b0) p = absurd (apart 5 1 p (omega arith))
tree_inj (const a0) (pi b0 b1) p = absurd (apart 5 2 p (omega arith))
tree_inj (const a0) (lam b0 b1) p = absurd (apart 5 3 p (omega arith))
tree_inj (const a0) (app b0 b1) p = absurd (apart 5 4 p (omega arith))
tree_inj (const a0) (const b0) p = λ i. const (consts.the_row.coded.inj a0 b0 (ap (λ g. tail g) p) i)
tree_inj (const a0) (proj b0 b1 b2) p = absurd (apart 5 6 p (omega arith))
tree_inj (const a0) (hole b0) p = absurd (apart 5 7 p (omega arith))
tree_inj (proj a0 a1 a2) (sort b0) p = absurd (apart 6 0 p (omega arith))
tree_inj (proj a0 a1 a2) (rel b0) p = absurd (apart 6 1 p (omega arith))
tree_inj (proj a0 a1 a2) (pi b0 b1) p = absurd (apart 6 2 p (omega arith))
tree_inj (proj a0 a1 a2) (lam b0 b1) p = absurd (apart 6 3 p (omega arith))
tree_inj (proj a0 a1 a2) (app b0 b1) p = absurd (apart 6 4 p (omega arith))
tree_inj (proj a0 a1 a2) (const b0) p = absurd (apart 6 5 p (omega arith))
tree_inj (proj a0 a1 a2) (proj b0 b1 b2) p = λ i. proj (records.the_row.coded.inj a0 b0 (ap (λ g. head (tail g)) p) i) (coded_ℕ.inj a1 b1 (ap (λ g. head (tail (tail g))) p) i) (tree_inj a2 b2 (ap (λ g. tail (tail (tail g))) p) i)
tree_inj (proj a0 a1 a2) (hole b0) p = absurd (apart 6 7 p (omega arith))
tree_inj (hole a0) (sort b0) p = absurd (apart 7 0 p (omega arith))
tree_inj (hole a0) (rel b0) p = absurd (apart 7 1 p (omega arith))
tree_inj (hole a0) (pi b0 b1) p = absurd (apart 7 2 p (omega arith))
tree_inj (hole a0) (lam b0 b1) p = absurd (apart 7 3 p (omega arith))
tree_inj (hole a0) (app b0 b1) p = absurd (apart 7 4 p (omega arith))
tree_inj (hole a0) (const b0) p = absurd (apart 7 5 p (omega arith))
tree_inj (hole a0) (proj b0 b1 b2) p = absurd (apart 7 6 p (omega arith))
tree_inj (hole a0) (hole b0) p = λ i. hole (coded_ℕ.inj a0 b0 (ap (λ g. tail g) p) i)

-- terms, with the way in which they are stored
abbrev pub coded_tree : Coded Tree
coded_tree = record { code = tree_code; inj = tree_inj }
