use Rattle.hb_howto.specs.Ways.{AreWays}
use Rattle.hb_howto.proofs.search.Search.thirds.Given as goal

abbrev pub invariant-loop-c : goal.invariant-loop-c
invariant-loop-c l = AreWays l.self.hier.now l.self.wanted.now l.self.given.now l.lists.items
