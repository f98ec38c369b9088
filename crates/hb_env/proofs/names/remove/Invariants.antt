use Rattle.std.proofs.Common.{◌≡◌}
use Rattle.hb_calculus.specs.Declarations.{names_of}
use Rattle.hb_env.specs.Plain.{plain}
use Rattle.hb_env.specs.Table.{removed}
use Rattle.hb_env.proofs.names.remove.Given as goal

abbrev pub invariant-loop-i : goal.invariant-loop-i
invariant-loop-i l = l.table ≡ removed (names_of (plain l.decl)) l.i l.initial.table
