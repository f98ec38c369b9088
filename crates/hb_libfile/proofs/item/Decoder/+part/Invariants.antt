use Rattle.hb_libfile.proofs.item.Decoder.+part.Given as goal

abbrev pub decreases-part : goal.decreases-part
decreases-part l = l.depth
