use Rattle.std.proofs.Common.{◌≡◌, drop}
use Rattle.hb_io.specs.Memory.{told_of}
use Rattle.hb_io.proofs.memory_depot.MemoryDepot.bytes_of.Given as goal

abbrev pub invariant-loop-file : goal.invariant-loop-file
invariant-loop-file l =
    told_of l.fn.self.files.items l.name ≡ told_of (drop l.file-index l.file-items) l.name
