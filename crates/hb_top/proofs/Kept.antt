-- What loops over files keep.
use Rattle.std.proofs.Common.{◌≤◌, ℕ, List, Bool, IsTrue}
use Rattle.hb_io.specs.Told.{Told}
use Rattle.hb_top.specs.Agenda.{Agenda}
use Rattle.hb_top.specs.Stops.{FilesStay}
use Rattle.hb_top.specs.Trace.{Point, Goes}

-- counts didn't fall, all files stay, and a run that is aloud went so far
pub record Kept (aloud : Bool) (ts us : Agenda) (a b : Point) (depot depot' sink sink' : ℕ) (before after : List ℕ → Told) : Type 0 where
  pub depot_later : depot ≤ depot'
  pub sink_later : sink ≤ sink'
  pub files : FilesStay before after
  pub went : IsTrue aloud → Goes before ts a us b
