-- Faults as refusals.
use Rattle.std.proofs.Common.{◌≡◌, ℕ, inr, subst, sym, List}
use Rattle.hb_calculus.specs.Declarations.{Decl}
use Rattle.hb_calculus.specs.Budget.{Budget}
use Rattle.hb_calculus.specs.Inference.{Cause}
use Rattle.hb_kernel.specs.Scoping.{IsReady}
use Rattle.hb_kernel.specs.Answers.{RefusesAt, AddRefusal, IsRefusal}
use Rattle.hb_kernel.specs.Faults.{FaultOf, refusal}
use Rattle.hb_kernel.specs.declared.error.KernelRefused.{KernelRefused}
use Rattle.hb_kernel.specs.declared.fault.Ask.TheVariants.{NotFunction, NotSort, NotRecord, Spent}
use Rattle.hb_kernel.specs.declared.fault.Fault.{Fault}
use Rattle.hb_kernel.specs.declared.fault.Fault.TheVariants.{Kept, Apart, LevelTooHigh, NoMemory}

ask-told : (E : List Decl) (L : Budget) (d : Decl) (e : Fault) → IsReady E L d → FaultOf (RefusesAt E L d) e → AddRefusal E L d (refusal e)
ask-told E L d (Kept NotFunction w) r h = (r, h)
ask-told E L d (Kept NotSort w) r h = (r, h)
ask-told E L d (Kept NotRecord w) r h = (r, h)
ask-told E L d (Kept Spent t) r h = inr (r, h)
ask-told E L d (Apart x y) r h = ((r, h.0), h.1)
ask-told E L d LevelTooHigh r h = (h.0, (r, h.1))
ask-told E L d NoMemory r h = tt

-- an ask of a declaration that is ready fails
pub add-told : (E : List Decl) (L : Budget) (d : Decl) (e : Fault) (x : KernelRefused) → x ≡ refusal e → IsReady E L d → FaultOf (RefusesAt E L d) e → AddRefusal E L d x
add-told E L d e x k r h = subst (λ (y : KernelRefused). AddRefusal E L d y) (sym k) (ask-told E L d e r h)

told : (unknown known : Type 0) (fails : Cause → ℕ → Type 0) (e : Fault) → known → FaultOf fails e → IsRefusal unknown (λ c n. known × fails c n) (refusal e)
told unknown known fails (Kept NotFunction w) k h = (k, h)
told unknown known fails (Kept NotSort w) k h = (k, h)
told unknown known fails (Kept NotRecord w) k h = (k, h)
told unknown known fails (Kept Spent t) k h = (k, h)
told unknown known fails (Apart x y) k h = ((k, h.0), h.1)
told unknown known fails LevelTooHigh k h = (h.0, (k, h.1))
told unknown known fails NoMemory k h = tt

-- an ask of terms that may be looked at fails
pub ask-refused : (unknown known : Type 0) (fails : Cause → ℕ → Type 0) (e : Fault) (x : KernelRefused) → x ≡ refusal e → known → FaultOf fails e → IsRefusal unknown (λ c n. known × fails c n) x
ask-refused unknown known fails e x q k h =
    subst (λ (y : KernelRefused). IsRefusal unknown (λ c n. known × fails c n) y) (sym q) (told unknown known fails e k h)
