use Rattle.std.proofs.Common.{vec_len, ◌+◌, ◌-◌, ◌<◌}
use Rattle.hb_io.proofs.Front.{ReadSoFar}
use Rattle.hb_io.proofs.whole.read_whole.Given as goal

abbrev pub invariant-pieces : goal.invariant-pieces
invariant-pieces g l =
    ReadSoFar (g.D.Depot.file l.initial.depot) (g.D.Depot.file l.depot) (g.D.Depot.faults l.initial.depot) (g.D.Depot.faults l.depot) (g.D.Depot.absents l.initial.depot) (g.D.Depot.absents l.depot) l.name l.bytes.items × (0 < vec_len l.piece)

abbrev pub decreases-pieces : goal.decreases-pieces
decreases-pieces g l = (l.most + 1) - vec_len l.bytes
