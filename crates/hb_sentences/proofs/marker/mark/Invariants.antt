use Rattle.hb_parse.specs.Numbers.{Extends}
use Rattle.hb_sentences.proofs.marker.mark.Given as goal

abbrev pub invariant-loop-token : goal.invariant-loop-token
invariant-loop-token l = Extends l.fn.names l.names
