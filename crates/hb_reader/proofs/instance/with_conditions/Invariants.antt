use Rattle.std.proofs.Common.{◌≡◌, ◌++◌, take}
use Rattle.hb_grammar.specs.Grammar.{conditions}
use Rattle.hb_reader.proofs.instance.with_conditions.Given as goal

abbrev pub invariant-loop-word : goal.invariant-loop-word
invariant-loop-word l =
    l.all.items ≡ l.initial.all.items ++ conditions (take l.word-index l.words.items) l.structure
