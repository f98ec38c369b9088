use Rattle.hb_howto.specs.Ways.{AreWays}
use Rattle.hb_howto.proofs.search.Search.threes.Given as goal

abbrev pub invariant-loop-a : goal.invariant-loop-a
invariant-loop-a l = AreWays l.self.hier.now l.self.wanted.now l.self.given.now l.lists.items
