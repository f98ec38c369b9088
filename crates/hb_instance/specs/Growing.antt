-- Theories that got more.
use Rattle.std.specs.Prelude.{◌≡◌, ◌++◌, List}
use Rattle.hb_calculus.specs.Declarations.{Decl}
use Rattle.hb_world.specs.Worlds.{Background}
use Rattle.hb_step.specs.Marks.{Since}

abbrev pub IsLonger : List Decl → List Decl → Type 0
IsLonger E E' = (more : List Decl) × (E' ≡ E ++ more)

-- a world that came of another by adding, whatever is declared
abbrev pub HasGrown : Background → Background → Type 0
HasGrown w w' = (E : List Decl) → Since E w E w'

-- a list that begins with the other
abbrev pub HasMore : {X : Type 0} → List X → List X → Type 0
HasMore {X} xs ys = (more : List X) × (ys ≡ xs ++ more)
