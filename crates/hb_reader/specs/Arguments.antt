-- Parts of the reader's steps at arguments.
use Rattle.std.specs.Prelude.{Bool, true, false, Option, Some, None}
use Rattle.hb_base.specs.declared.span.Span.{Span}
use Rattle.hb_grammar.specs.declared.mark.Mark.{Mark}
use Rattle.hb_grammar.specs.declared.mark.Mark.TheVariants.{Ident, Pair, Prop, Universe, Hole, Open, At}
use Rattle.hb_grammar.specs.Leaf.{Sign}
use Rattle.hb_grammar.specs.Part.{Part}
use Rattle.hb_grammar.specs.Grammar as grammar
use Rattle.hb_grammar.specs.Machine as plain

-- the first token of an argument without parentheses
abbrev pub unbracketed : plain.Before → plain.Stack → Mark → Sign → Option plain.State
unbracketed b k Open w = None
unbracketed b k m w = plain.argument b k m w

-- whether a token begins an argument
abbrev pub begins_argument : Mark → Bool
begins_argument Ident = true
begins_argument (Pair s) = true
begins_argument At = true
begins_argument Hole = true
begins_argument Prop = true
begins_argument Universe = true
begins_argument Open = true
begins_argument m = false

-- the first token of one more argument: none comes behind what takes no arguments
abbrev pub applied : plain.Before → Part → plain.Stack → Mark → Sign → Option plain.State
applied plain.alone a k m w = None
applied b a k m w = plain.argument (plain.next b a) k m w

-- what stands before an argument
abbrev pub is_first : plain.Before → Bool
is_first plain.first = true
is_first b = false

abbrev pub takes_arrow : plain.Before → Bool
takes_arrow plain.first = true
takes_arrow (plain.behind s) = true
takes_arrow b = false

abbrev pub is_alone : plain.Before → Bool
is_alone plain.alone = true
is_alone b = false

-- the builder of an instance with its arguments
abbrev pub making_of : plain.Before → Option grammar.Spine
making_of (plain.making s) = Some s
making_of b = None

-- the term before a token that ends it
abbrev pub ending : plain.Before → Part → plain.Stack → Mark → Sign → Option plain.State
ending b a k m w = plain.closed k m (grammar.spine_part (plain.filled b a)) w

-- a name behind `Type @`
abbrev pub bare_behind : plain.Before → Part → Span → plain.Stack → Mark → Sign → Option plain.State
bare_behind plain.alone a x k m w = None
bare_behind b a x k m w = plain.bare_named (plain.next b a) x k m w
