-- Why an ask fails, with the scope of its place.
use Rattle.std.specs.Prelude.{◌≡◌, ℕ, List}
use Rattle.hb_tree.specs.Tree.{Tree, pi}
use Rattle.hb_term.specs.Meaning.{tree}
use Rattle.hb_term.specs.declared.scoped.Scoped.{Scoped}
use Rattle.hb_calculus.specs.Declarations.{Decl}
use Rattle.hb_calculus.specs.Budget.{Budget}
use Rattle.hb_calculus.specs.Sequence.{HeadExceeds}
use Rattle.hb_calculus.specs.Inference.{Cause, spent, NotOfForm, NotBelow, NotType, Infers, HeadIs}
use Rattle.hb_kernel.specs.Places.{type_place}

-- the type exceeds the budget on the way to its weak head form
abbrev pub HeadFault : List Decl → Budget → Scoped → Cause → ℕ → Type 0
HeadFault E L ty c n = (c ≡ spent (tree ty.term)) × HeadExceeds E L (tree ty.term) × (n ≡ ty.depth)

abbrev pub NotOfFormAt : List Decl → Budget → (Tree → Type 0) → (Tree → Cause) → Scoped → Cause → ℕ → Type 0
NotOfFormAt E L IsForm other ty c n = NotOfForm E L IsForm other (tree ty.term) c × (n ≡ ty.depth)

abbrev pub NotBelowAt : List Decl → Budget → (a b : Scoped) → Cause → ℕ → Type 0
NotBelowAt E L a b c n = NotBelow E L (tree a.term) (tree b.term) c × (n ≡ a.depth)

abbrev pub NotTypeAt : List Decl → Budget → List Tree → Tree → Cause → ℕ → Type 0
NotTypeAt E L G t c n = (f : NotType E L G t c) × (type_place f ≡ n)

-- the inferred type of f has this product as its weak head form
abbrev pub Applies : List Decl → Budget → List Tree → (f a b : Tree) → Type 0
Applies E L G f a b = (F : Tree) × Infers E L G f F × HeadIs E L F (pi a b)
