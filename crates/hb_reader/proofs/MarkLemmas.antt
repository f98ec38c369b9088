-- The reader's steps at the marks that no case of the code names.
use Rattle.std.proofs.Common.{◌≡◌, ℕ, Bool, true, false, List, length, Some, None, refl}
use Rattle.hb_base.specs.declared.span.Span.{Span}
use Rattle.hb_raw.specs.Preterm.{Group}
use Rattle.hb_grammar.specs.declared.mark.Mark.{Mark}
use Rattle.hb_grammar.specs.declared.mark.Mark.TheVariants.{Ident, Pair, Prop, Universe, Forall, Fun, Hole, Open, Brace, Colon, Arrow, At, Project, End}
use Rattle.hb_grammar.specs.Leaf.{Sign}
use Rattle.hb_grammar.specs.Part.{Part}
use Rattle.hb_grammar.specs.Grammar.{Bounds, Spine}
use Rattle.hb_grammar.specs.Machine as plain
use Rattle.hb_reader.specs.Arguments.{unbracketed, begins_argument, applied, ending, bare_behind, making_of}

pub unbracketed-is : (b : plain.Before) (k : plain.Stack) (m : Mark) (w : Sign) → (m ≡ Open → ⊥)
    → unbracketed b k m w ≡ plain.argument b k m w
unbracketed-is b k Open w n = absurd (n refl)
unbracketed-is b k _ w n = refl

pub begins-else : (b : plain.Before) (k : plain.Stack) (m : Mark) (w : Sign) → (m ≡ Forall → ⊥) → (m ≡ Fun → ⊥)
    → plain.term_begins b k m w ≡ plain.argument b k m w
begins-else b k Forall w n p = absurd (n refl)
begins-else b k Fun w n p = absurd (p refl)
begins-else plain.first k _ w n p = refl
begins-else b k _ w n p = refl

pub carrier-some : (b : plain.Before) (k : plain.Stack) (m : Mark) (w : Sign) (s : Spine) → making_of b ≡ Some s
    → plain.after_carrier b k m w ≡ plain.after_carrier (plain.making s) k m w
carrier-some (plain.making t) k m w s e = let f : t ≡ s = cc in rw f refl
carrier-some plain.first k m w s e = absurd (cc)
carrier-some plain.alone k m w s e = absurd (cc)
carrier-some (plain.behind t) k m w s e = absurd (cc)

pub carrier-none : (b : plain.Before) (k : plain.Stack) (m : Mark) (w : Sign) → making_of b ≡ None
    → plain.after_carrier b k m w ≡ None
carrier-none (plain.making t) k m w e = absurd (cc)
carrier-none plain.first k m w e = refl
carrier-none plain.alone k m w e = refl
carrier-none (plain.behind t) k m w e = refl

pub making-else : (s : Spine) (k : plain.Stack) (m : Mark) (w : Sign) → (m ≡ End → ⊥)
    → plain.after_carrier (plain.making s) k m w ≡ plain.argument (plain.making s) k m w
making-else s k End w n = absurd (n refl)
making-else s k _ w n = refl

pub universe-else : (b : plain.Before) (a : Part) (x : Span) (k : plain.Stack) (m : Mark) (w : Sign) → (m ≡ Brace → ⊥)
    → plain.after_universe_at b a x k m w ≡ bare_behind b a x k m w
universe-else b a x k Brace w n = absurd (n refl)
universe-else plain.alone a x k _ w n = refl
universe-else plain.first a x k _ w n = refl
universe-else (plain.behind s) a x k _ w n = refl
universe-else (plain.making s) a x k _ w n = refl

pub applied-is : (b : plain.Before) (a : Part) (k : plain.Stack) (m : Mark) (w : Sign) → begins_argument m ≡ true
    → plain.applied_or_closed b a k m w ≡ applied b a k m w
applied-is plain.alone a k Ident w e = refl
applied-is plain.alone a k (Pair s) w e = refl
applied-is plain.alone a k At w e = refl
applied-is plain.alone a k Hole w e = refl
applied-is plain.alone a k Prop w e = refl
applied-is plain.alone a k Universe w e = refl
applied-is plain.alone a k Open w e = refl
applied-is plain.alone a k _ w e = absurd (cc)
applied-is plain.first a k Ident w e = refl
applied-is plain.first a k (Pair s) w e = refl
applied-is plain.first a k At w e = refl
applied-is plain.first a k Hole w e = refl
applied-is plain.first a k Prop w e = refl
applied-is plain.first a k Universe w e = refl
applied-is plain.first a k Open w e = refl
applied-is plain.first a k _ w e = absurd (cc)
applied-is (plain.behind t) a k Ident w e = refl
applied-is (plain.behind t) a k (Pair s) w e = refl
applied-is (plain.behind t) a k At w e = refl
applied-is (plain.behind t) a k Hole w e = refl
applied-is (plain.behind t) a k Prop w e = refl
applied-is (plain.behind t) a k Universe w e = refl
applied-is (plain.behind t) a k Open w e = refl
applied-is (plain.behind t) a k _ w e = absurd (cc)
applied-is (plain.making t) a k Ident w e = refl
applied-is (plain.making t) a k (Pair s) w e = refl
applied-is (plain.making t) a k At w e = refl
applied-is (plain.making t) a k Hole w e = refl
applied-is (plain.making t) a k Prop w e = refl
applied-is (plain.making t) a k Universe w e = refl
applied-is (plain.making t) a k Open w e = refl
applied-is (plain.making t) a k _ w e = absurd (cc)

pub ending-is : (b : plain.Before) (a : Part) (k : plain.Stack) (m : Mark) (w : Sign) → begins_argument m ≡ false
    → plain.applied_or_closed b a k m w ≡ ending b a k m w
ending-is b a k Ident w e = absurd (cc)
ending-is b a k (Pair s) w e = absurd (cc)
ending-is b a k At w e = absurd (cc)
ending-is b a k Hole w e = absurd (cc)
ending-is b a k Prop w e = absurd (cc)
ending-is b a k Universe w e = absurd (cc)
ending-is b a k Open w e = absurd (cc)
ending-is plain.alone a k _ w e = refl
ending-is b a k _ w e = refl

pub behind-else : (b : plain.Before) (a : Part) (u : Bool) (k : plain.Stack) (m : Mark) (w : Sign)
    → (m ≡ Project → ⊥) → (m ≡ Arrow → ⊥) → (m ≡ At → ⊥)
    → plain.after_argument b a u k m w ≡ plain.applied_or_closed b a k m w
behind-else b a u k Project w n p q = absurd (n refl)
behind-else b a u k Arrow w n p q = absurd (p refl)
behind-else b a u k At w n p q = absurd (q refl)
behind-else b a true k _ w n p q = refl
behind-else b a false k _ w n p q = refl

pub at-applied : (b : plain.Before) (a : Part) (k : plain.Stack) (w : Sign)
    → plain.after_argument b a false k At w ≡ applied b a k At w
at-applied plain.alone a k w = refl
at-applied plain.first a k w = refl
at-applied (plain.behind t) a k w = refl
at-applied (plain.making t) a k w = refl

pub bares-else : (b : plain.Binding) (xs : Bounds) (m : Mark) (w : Sign)
    → (m ≡ Ident → ⊥) → (m ≡ Hole → ⊥) → (m ≡ Open → ⊥) → (m ≡ Colon → ⊥)
    → plain.after_bares b xs m w ≡ plain.bound_to b (plain.bare_groups xs) (length xs) m
bares-else b xs Ident w n p q r = absurd (n refl)
bares-else b xs Hole w n p q r = absurd (p refl)
bares-else b xs Open w n p q r = absurd (q refl)
bares-else b xs Colon w n p q r = absurd (r refl)
bares-else (plain.of_product x k) xs _ w n p q r = refl
bares-else (plain.of_function x k) xs _ w n p q r = refl
bares-else (plain.of_definition x c) xs _ w n p q r = refl

pub groups-else : (b : plain.Binding) (gs : List Group) (c : ℕ) (m : Mark) (w : Sign)
    → (m ≡ Ident → ⊥) → (m ≡ Hole → ⊥) → (m ≡ Open → ⊥)
    → plain.after_groups b gs c m w ≡ plain.bound_to b gs c m
groups-else b gs c Ident w n p q = absurd (n refl)
groups-else b gs c Hole w n p q = absurd (p refl)
groups-else b gs c Open w n p q = absurd (q refl)
groups-else b gs c _ w n p q = refl
