use Rattle.hb_reader.proofs.WordLemmas.{last_word_take}
use Rattle.hb_reader.proofs.places.last_word.Goals as goal

pub loop-word-preserved : goal.loop-word-preserved
loop-word-preserved c =
    last_word_take c.args.first c.deref-word-items.result.now c.loop-word.word-index _ c.loop-word-test.true
