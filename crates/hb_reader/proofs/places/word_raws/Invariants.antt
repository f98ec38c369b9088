use Rattle.std.proofs.Common.{◌≡◌, map, take}
use Rattle.hb_raw.specs.Views.{terms}
use Rattle.hb_grammar.specs.Grammar.{word_term}
use Rattle.hb_reader.proofs.places.word_raws.Given as goal

abbrev pub invariant-loop-word : goal.invariant-loop-word
invariant-loop-word l = terms l.all.items ≡ map word_term (take l.word-index l.words.items)
