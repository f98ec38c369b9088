use Rattle.std.proofs.Common.{◌≡◌, take}
use Rattle.hb_grammar.specs.Grammar.{last_word}
use Rattle.hb_reader.proofs.places.last_word.Given as goal

abbrev pub invariant-loop-word : goal.invariant-loop-word
invariant-loop-word l = l.last ≡ last_word l.fn.first (take l.word-index l.word-items)
