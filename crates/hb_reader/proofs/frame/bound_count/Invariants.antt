use Rattle.std.proofs.Common.{◌≡◌, take}
use Rattle.hb_raw.specs.Views.{groups}
use Rattle.hb_reader.specs.Views.{bound_in}
use Rattle.hb_reader.specs.Measures.{counted}
use Rattle.hb_reader.proofs.frame.bound_count.Given as goal

abbrev pub invariant-loop-g : goal.invariant-loop-g
invariant-loop-g l = l.sum ≡ counted (bound_in (groups (take l.g-index l.g-items)))
