-- Steps at the head.
use Rattle.std.proofs.Common.{◌≡◌, List}
use Rattle.std.specs.Prelude.{Some, option_map}
use Rattle.std.proofs.lemmas.Option.{none-some}
use Rattle.hb_tree.specs.Tree.{Tree, sort, rel, pi, lam, app, const, proj, hole}
use Rattle.hb_calculus.specs.Declarations.{Decl}
use Rattle.hb_calculus.specs.Contraction.{contract, next, head_step}
use Rattle.hb_calculus.proofs.Options.{or-second, or-mapped, map-second}

pub head-next : (E : List Decl) (t u : Tree) → head_step E t ≡ Some u → next E t ≡ Some u
head-next E (sort s) u h = h
head-next E (rel v) u h = h
head-next E (pi a b) u h = absurd (none-some u h)
head-next E (lam a b) u h = absurd (none-some u h)
head-next E (app f a) u h =
    or-second (contract E (app f a)) _ _ u
    (λ x e. or-mapped (λ y. app y a) (head_step E f) (next E f) (option_map (λ y. app f y) (next E a)) x (head-next E f) e)
    h
head-next E (const c) u h = h
head-next E (proj r i t) u h =
    or-second (contract E (proj r i t)) _ _ u (λ x e. map-second (λ y. proj r i y) (head_step E t) (next E t) x (head-next E t) e) h
head-next E (hole h') u h = h
