-- Heads and arguments of applications.
use Rattle.std.proofs.Common.{◌≡◌, ◌∙◌, sym, refl, List, [], ◌∷◌, ◌++◌, append_assoc, append-nil}
use Rattle.hb_tree.specs.Tree.{Tree, sort, rel, pi, lam, app, const, proj, hole, head_of, args_of, apply}

pub apply-append : (f : Tree) (xs ys : List Tree) → apply f (xs ++ ys) ≡ apply (apply f xs) ys
apply-append f [] ys = refl
apply-append f (x ∷ xs) ys = apply-append (app f x) xs ys

-- a term is its head applied to its arguments
pub apply-args : (t : Tree) → apply (head_of t) (args_of t) ≡ t
apply-args (sort s) = refl
apply-args (rel v) = refl
apply-args (pi a b) = refl
apply-args (lam a b) = refl
apply-args (app f a) = apply-append (head_of f) (args_of f) (a ∷ []) ∙ (λ i. app (apply-args f i) a)
apply-args (const c) = refl
apply-args (proj r i t) = refl
apply-args (hole h) = refl

pub head-apply : (f : Tree) (xs : List Tree) → head_of (apply f xs) ≡ head_of f
head-apply f [] = refl
head-apply f (x ∷ xs) = head-apply (app f x) xs

pub args-apply : (f : Tree) (xs : List Tree) → args_of (apply f xs) ≡ args_of f ++ xs
args-apply f [] = sym (append-nil (args_of f))
args-apply f (x ∷ xs) = args-apply (app f x) xs ∙ append_assoc (args_of f) (x ∷ []) xs
