-- The refusals of asks, as the crate's own functions hand them on.
use Rattle.std.specs.Prelude.{◌≡◌, ℕ}
use Rattle.hb_tree.specs.Tree.{Tree}
use Rattle.hb_term.specs.Meaning.{tree}
use Rattle.hb_calculus.specs.Inference.{Cause, not_function, not_sort, not_record, not_convertible, level_too_high, spent}
use Rattle.hb_kernel.specs.declared.error.KernelRefused.{KernelRefused}
use Rattle.hb_kernel.specs.declared.error.KernelRefused.TheVariants as refused
use Rattle.hb_kernel.specs.declared.fault.Ask.{Ask}
use Rattle.hb_kernel.specs.declared.fault.Ask.TheVariants.{NotFunction, NotSort, NotRecord, Spent}
use Rattle.hb_kernel.specs.declared.fault.Fault.{Fault}
use Rattle.hb_kernel.specs.declared.fault.Fault.TheVariants.{Kept, Apart, LevelTooHigh, NoMemory}

-- the cause that keeps the term
abbrev pub kept : Ask → Tree → Cause
kept NotFunction w = not_function w
kept NotSort w = not_sort w
kept NotRecord w = not_record w
kept Spent t = spent t

-- the fault has a cause at a place
abbrev pub FaultOf : (Cause → ℕ → Type 0) → Fault → Type 0
FaultOf fails (Kept k w) = fails (kept k (tree w.term)) w.depth
FaultOf fails (Apart x y) = fails (not_convertible (tree x.term) (tree y.term)) x.depth × (y.depth ≡ x.depth)
FaultOf fails LevelTooHigh = (n : ℕ) × fails level_too_high n
FaultOf fails NoMemory = Unit {0}

-- the refusal that tells the fault
abbrev pub refusal : Fault → KernelRefused
refusal (Kept NotFunction w) = refused.NotFunction w
refusal (Kept NotSort w) = refused.NotSort w
refusal (Kept NotRecord w) = refused.NotRecord w
refusal (Kept Spent t) = refused.Spent t
refusal (Apart x y) = refused.NotConvertible x y
refusal LevelTooHigh = refused.LevelTooHigh
refusal NoMemory = refused.NoMemory
