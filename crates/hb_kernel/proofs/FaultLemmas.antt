-- Faults with one cause in the place of another.
use Rattle.std.proofs.Common.{ℕ, List, subst, sym}
use Rattle.hb_tree.specs.Tree.{Tree}
use Rattle.hb_term.specs.Meaning.{tree}
use Rattle.hb_term.specs.declared.scoped.Scoped.{Scoped}
use Rattle.hb_calculus.specs.Declarations.{Decl}
use Rattle.hb_calculus.specs.Budget.{Budget}
use Rattle.hb_calculus.specs.Inference.{Cause, NotOfForm, form_spent}
use Rattle.hb_kernel.specs.declared.fault.Fault.{Fault}
use Rattle.hb_kernel.specs.declared.fault.Fault.TheVariants.{Kept, Apart, LevelTooHigh, NoMemory}
use Rattle.hb_kernel.specs.Faults.{FaultOf}
use Rattle.hb_kernel.specs.Asks.{HeadFault, NotOfFormAt}

pub map-fault : (P Q : Cause → ℕ → Type 0) → ((c : Cause) (n : ℕ) → P c n → Q c n) → (e : Fault) → FaultOf P e → FaultOf Q e
map-fault P Q f (Kept k w) h = f _ _ h
map-fault P Q f (Apart x y) h = (f _ _ h.0, h.1)
map-fault P Q f LevelTooHigh h = (h.0, f _ _ h.1)
map-fault P Q f NoMemory h = tt

-- a type that exceeds the budget has no form
pub head-fault : (E : List Decl) (L : Budget) (IsForm : Tree → Type 0) (other : Tree → Cause) (ty : Scoped) (e : Fault) → FaultOf (HeadFault E L ty) e → FaultOf (NotOfFormAt E L IsForm other ty) e
head-fault E L IsForm other ty e h =
    map-fault (HeadFault E L ty) (NotOfFormAt E L IsForm other ty)
    (λ c n f. (subst (λ x. NotOfForm E L IsForm other (tree ty.term) x) (sym f.0) (form_spent f.1), f.2))
    e h
