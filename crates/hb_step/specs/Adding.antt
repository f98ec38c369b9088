-- Why declarations aren't added.
use Rattle.std.specs.Prelude.{◌≡◌, ◌⊎◌, List, [], ◌∷◌, ◌++◌}
use Rattle.hb_calculus.specs.Budget.{Budget}
use Rattle.hb_calculus.specs.Declarations.{Decl}
use Rattle.hb_env.specs.declared.refusal.What.{What}
use Rattle.hb_env.specs.declared.refusal.What.TheVariants.{NoMemory}
use Rattle.hb_kernel.specs.Answers.{AddRefusal}
use Rattle.hb_kernel.specs.declared.error.KernelRefused.{KernelRefused}
use Rattle.hb_step.specs.Kernel.{reported}

-- the kernel doesn't add the declaration
pub record NotAdded (E : List Decl) (L : Budget) (d : Decl) (w : What) : Type 0 where
  pub refused : KernelRefused
  pub cause : AddRefusal E L d refused
  pub what : w ≡ reported refused

-- memory is wanting, or the kernel doesn't add the declaration
abbrev pub AddFails : List Decl → Budget → Decl → What → Type 0
AddFails E L d w = (w ≡ NoMemory) ⊎ NotAdded E L d w

-- the declarations are added in order up to the first that isn't
pub data Stops (L : Budget) : List Decl → List Decl → What → Type 0 where
  stops_here : {E ds : List Decl} {d : Decl} {w : What} → AddFails E L d w → Stops L E (d ∷ ds) w
  stops_later :
      {E ds : List Decl} {d : Decl} {w : What} → Stops L (E ++ d ∷ []) ds w → Stops L E (d ∷ ds) w
