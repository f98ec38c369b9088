-- The nesting of a token, and which argument it begins, as the code counts them.
use Rattle.std.specs.Prelude.{◌≡◌, ℕ, ◌-◌, ◌^◌, min}
use Rattle.hb_grammar.specs.declared.mark.Mark.{Mark}
use Rattle.hb_grammar.specs.declared.mark.Mark.TheVariants.{Open}
use Rattle.hb_grammar.specs.Leaf.{Sign, Leaf, leaf}
use Rattle.hb_grammar.specs.Places.{nesting, argument_of}
use Rattle.hb_reader.specs.declared.measure.Measure.{Measure}

-- a count that stands still at the end of its type
abbrev pub counted : ℕ → ℕ
counted n = min n (2 ^ 64 - 1)

abbrev pub IsMeasure : Measure → Leaf → Type 0
IsMeasure m l = (m.nested ≡ counted (nesting l)) × (m.applied ≡ argument_of l)

-- a token outside brackets that may be `(`
abbrev pub bracketed_leaf : Mark → Sign → ℕ → Leaf
bracketed_leaf Open w n = leaf Open w 1 n
bracketed_leaf m w n = leaf m w 0 n
