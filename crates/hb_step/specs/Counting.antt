-- Counts that declarations would pass.
use Rattle.std.specs.Prelude.{List, [], ◌∷◌, ◌++◌}
use Rattle.hb_base.specs.declared.count.Count.{Count}
use Rattle.hb_calculus.specs.Declarations.{Decl}
use Rattle.hb_env.specs.Environment.{IsPassed}

-- added in order, the declarations come to one that would pass the count
pub data ComeToPass : List Decl → List Decl → Count → Type 0 where
  passes_here : {E ds : List Decl} {d : Decl} {c : Count} → IsPassed E d c → ComeToPass E (d ∷ ds) c
  passes_later :
      {E ds : List Decl} {d : Decl} {c : Count} → ComeToPass (E ++ d ∷ []) ds c → ComeToPass E (d ∷ ds) c
