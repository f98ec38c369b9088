-- What a token says.
use Rattle.hb_grammar.specs.Leaf as leaf
use Rattle.hb_reader.specs.declared.sign.Sign.{Sign}

abbrev pub sign : Sign → leaf.Sign
sign s = record { whole = s.whole; first = s.first; value = s.value; place = s.place }
