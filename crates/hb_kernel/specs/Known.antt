-- Types that name what they may, each under those before it.
use Rattle.std.specs.Prelude.{ℕ, List}
use Rattle.hb_tree.specs.Tree.{Tree}
use Rattle.hb_calculus.specs.Declarations.{Decl}
use Rattle.hb_calculus.specs.Scope.{AreScoped, AreDeclared}

pub record AreKnownTypes (E : List Decl) (n : ℕ) (ts : List Tree) : Type 0 where
  pub scoped : AreScoped n ts
  pub declared : AreDeclared E ts
