-- What the code counts.
use Rattle.std.proofs.Common.{◌≡◌, ℕ, ◌+◌, ◌<◌, Bool, true, false, List, [], ◌∷◌, ◌++◌, length, take, get_or, cond, refl, ap, ◌∙◌, sym}
use Rattle.std.proofs.lemmas.List.{take_more, map-append}
use Rattle.hb_raw.specs.declared.raw.Binder.{Binder}
use Rattle.hb_raw.specs.declared.word.Word.{Word}
use Rattle.hb_raw.specs.Views.{group, groups}
use Rattle.hb_grammar.specs.declared.mark.Mark.{Mark}
use Rattle.hb_grammar.specs.declared.mark.Mark.TheVariants.{Ident, Pair, Prop, Universe, Forall, Fun, Hole, Open, Brace, Arrow, At, Project}
use Rattle.hb_grammar.specs.Leaf.{Sign, leaf, late}
use Rattle.hb_grammar.specs.Part.{Part}
use Rattle.hb_grammar.specs.Machine as plain
use Rattle.hb_reader.specs.declared.listing.ListState.{ListState}
use Rattle.hb_reader.specs.declared.listing.ListState.TheVariants as lists
use Rattle.hb_reader.specs.States.{list_state}
use Rattle.hb_reader.specs.Views.{bound_by, bound_in}
use Rattle.hb_reader.specs.Arguments.{begins_argument}
use Rattle.hb_reader.specs.Measures.{bracketed_leaf}
use Rattle.hb_reader.proofs.GroupLemmas.{bound_in-more}

-- one more group
pub bound_in_take : (gs : List Binder) (i : ℕ) (g : Binder) → i < length gs → g ≡ get_or gs i g
    → bound_in (groups (take (i + 1) gs)) ≡ bound_in (groups (take i gs)) + bound_by (group g)
bound_in_take gs i g l e =
    ap (λ x. bound_in (groups x)) (take_more gs i g l ∙ ap (λ y. take i gs ++ (y ∷ [])) (sym e))
    ∙ (ap bound_in (map-append group (take i gs) (g ∷ [])) ∙ bound_in-more (groups (take i gs)) (group g))

pub same_ways : (b : Bool) (n : ℕ) → cond b n n ≡ n
same_ways true n = refl
same_ways false n = refl

-- leaves at the marks that no case of the code names
pub argument_leaf_else : (b : plain.Before) (k : plain.Stack) (m : Mark) (w : Sign) → (m ≡ Open → ⊥)
    → plain.argument_leaf b k m w ≡ leaf m w (plain.depth k) (plain.count b)
argument_leaf_else b k Open w n = absurd (n refl)
argument_leaf_else b k _ w n = refl

pub argument_leaf_is : (b : plain.Before) (k : plain.Stack) (m : Mark) (w : Sign) → begins_argument m ≡ true
    → plain.argument_or_close_leaf b k m w ≡ plain.argument_leaf b k m w
argument_leaf_is b k Ident w e = refl
argument_leaf_is b k (Pair s) w e = refl
argument_leaf_is b k At w e = refl
argument_leaf_is b k Hole w e = refl
argument_leaf_is b k Prop w e = refl
argument_leaf_is b k Universe w e = refl
argument_leaf_is b k Open w e = refl
argument_leaf_is b k _ w e = absurd (cc)

pub closing_leaf_is : (b : plain.Before) (k : plain.Stack) (m : Mark) (w : Sign) → begins_argument m ≡ false
    → plain.argument_or_close_leaf b k m w ≡ leaf m w (plain.closing k) 0
closing_leaf_is b k Ident w e = absurd (cc)
closing_leaf_is b k (Pair s) w e = absurd (cc)
closing_leaf_is b k At w e = absurd (cc)
closing_leaf_is b k Hole w e = absurd (cc)
closing_leaf_is b k Prop w e = absurd (cc)
closing_leaf_is b k Universe w e = absurd (cc)
closing_leaf_is b k Open w e = absurd (cc)
closing_leaf_is b k _ w e = refl

pub begun_leaf_else : (b : plain.Before) (k : plain.Stack) (m : Mark) (w : Sign) → (m ≡ Forall → ⊥) → (m ≡ Fun → ⊥)
    → plain.begun_leaf b k m w ≡ plain.argument_leaf b k m w
begun_leaf_else b k Forall w n p = absurd (n refl)
begun_leaf_else b k Fun w n p = absurd (p refl)
begun_leaf_else b k _ w n p = refl

pub behind_leaf_else : (b : plain.Before) (a : Part) (u : Bool) (k : plain.Stack) (m : Mark) (w : Sign)
    → (m ≡ Project → ⊥) → (m ≡ Arrow → ⊥) → (m ≡ At → ⊥)
    → plain.behind_leaf b a u k m w ≡ plain.argument_or_close_leaf (plain.next b a) k m w
behind_leaf_else b a u k Project w n p q = absurd (n refl)
behind_leaf_else b a u k Arrow w n p q = absurd (p refl)
behind_leaf_else b a u k At w n p q = absurd (q refl)
behind_leaf_else b a true k _ w n p q = refl
behind_leaf_else b a false k _ w n p q = refl

pub universe_leaf_else : (b : plain.Before) (a : Part) (k : plain.Stack) (m : Mark) (w : Sign) → (m ≡ Brace → ⊥)
    → plain.universe_at_leaf b a k m w ≡ late m w (plain.depth k) (plain.count (plain.next b a))
universe_leaf_else b a k Brace w n = absurd (n refl)
universe_leaf_else b a k _ w n = refl

pub binding_leaf_else : (b : plain.Binding) (m : Mark) (w : Sign) → (m ≡ Open → ⊥)
    → plain.binding_leaf b m w ≡ leaf m w (plain.binding_depth b) 0
binding_leaf_else b Open w n = absurd (n refl)
binding_leaf_else b _ w n = refl

pub bracketed_leaf_else : (m : Mark) (w : Sign) (n : ℕ) → (m ≡ Open → ⊥) → bracketed_leaf m w n ≡ leaf m w 0 n
bracketed_leaf_else Open w n e = absurd (e refl)
bracketed_leaf_else _ w n e = refl

pub bracket_leaf_is : (m : Mark) (w : Sign) → plain.bracket_leaf 0 m w ≡ bracketed_leaf m w 0
bracket_leaf_is Open w = refl
bracket_leaf_is _ w = refl

pub placing_leaf_is : (p : plain.Placing) (m : Mark) (w : Sign) → plain.placing_leaf p m w ≡ bracketed_leaf m w (plain.placing_argument p)
placing_leaf_is p Open w = refl
placing_leaf_is p _ w = refl

pub place_leaf_else : (ws : List Word) (m : Mark) (w : Sign) → (m ≡ Ident → ⊥) → plain.place_leaf ws m w ≡ leaf m w 1 0
place_leaf_else ws Ident w n = absurd (n refl)
place_leaf_else ws _ w n = refl

-- items and fields are in no bracket
pub list_leaf : (s : ListState) (m : Mark) (w : Sign) → plain.read (list_state s) m w ≡ leaf m w 0 0
list_leaf (lists.Factory l is) m w = refl
list_leaf (lists.Carrier l is f) m w = refl
list_leaf (lists.Items l is) m w = refl
list_leaf (lists.ItemOrEnd x n c is) m w = ap (λ d. leaf m w d 0) (same_ways (plain.same Ident m) 0)
list_leaf (lists.Brace r) m w = refl
list_leaf (lists.Fields r fs) m w = refl
list_leaf (lists.Colon r fs f) m w = refl
