-- Refusals of the kernel.
use Rattle.hb_env.specs.declared.refusal.What.{What}
use Rattle.hb_env.specs.declared.refusal.What.TheVariants as what
use Rattle.hb_kernel.specs.declared.error.KernelRefused.{KernelRefused}
use Rattle.hb_kernel.specs.declared.error.KernelRefused.TheVariants as kernel

-- what is reported of a refusal of the kernel
abbrev pub reported : KernelRefused → What
reported (kernel.Redeclared n) = what.Redeclared n
reported (kernel.NotFunction t) = what.NotFunction t
reported (kernel.NotSort t) = what.NotType t
reported (kernel.NotRecord t) = what.NotRecord t
reported (kernel.NotConvertible a b) = what.NotConvertible a b
reported kernel.Unscoped = what.NoMemory
reported kernel.LevelTooHigh = what.LevelTooHigh
reported (kernel.Spent t) = what.Spent t
reported (kernel.TooMany c) = what.TooMany c
reported kernel.NoMemory = what.NoMemory
