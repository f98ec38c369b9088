use Rattle.hb_howto.specs.Ways.{AreWays}
use Rattle.hb_howto.proofs.search.Search.rest_of_threes.Given as goal

abbrev pub invariant-loop-b : goal.invariant-loop-b
invariant-loop-b l = AreWays l.self.hier.now l.self.wanted.now l.self.given.now l.lists.items
