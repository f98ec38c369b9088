use Rattle.hb_sets.proofs.BitLemmas.{bit_at-outside}
use Rattle.hb_sets.proofs.mix_set.word_outside.Goals as goal

pub returns : goal.returns
returns c = λ k lt. bit_at-outside c.args.a c.args.b k c.ranges.b.fits lt
