-- Each step keeps what the states say.
use Rattle.std.proofs.Common.{◌≡◌, Bool, true, false, List, ◌∷◌, refl, subst}
use Rattle.hb_grammar.specs.declared.mark.Mark.{Mark}
use Rattle.hb_grammar.specs.declared.mark.Mark.TheVariants.{Ident, Pair, Prop, Universe, Hole, Open, Arrow, At, Project}
use Rattle.hb_grammar.specs.Leaf.{Sign, Leaf, leaf}
use Rattle.hb_grammar.specs.Part.{Part}
use Rattle.hb_grammar.specs.Grammar.{spine_part, p_head, p_more, IsArg, r_atom, a_name, a_hole, a_prop, a_type, m_more}
use Rattle.hb_grammar.specs.Machine.{Before, first, behind, alone, making, filled, next, count, Stack, depth, closing, argument, closed, arrowed, applied_or_closed, after_argument, argument_leaf, argument_or_close_leaf, behind_leaf}
use Rattle.hb_grammar.proofs.Holds.{Ahead, ah_first, ah_behind, ah_alone, ah_making, Opened, o_right, o_inside, he_want, he_have, he_bare, he_universe_at, he_projecting, Then}
use Rattle.hb_grammar.proofs.Closing.{whole_term, closed_holds}

-- an argument's first token
pub argument_holds : (m : Mark) (w : Sign) {k : Stack} {b : Before} {all vs us : List Leaf} {e : Bool}
    → Opened all k vs → Ahead k b e vs (argument_leaf b k m w ∷ us) → (m ≡ At → e ≡ false)
    → Then all (argument b k m w) us
argument_holds Ident w o h t = he_have o h (r_atom (a_name tt))
argument_holds (Pair s) w o h t = he_have o h (r_atom (a_name tt))
argument_holds At w {k = k} {b = b} {vs = vs} {us = us} o h t =
    let P : Bool → Type 0 = λ f. Ahead k b f vs (leaf At w (depth k) (count b) ∷ us) in
    he_bare o (subst P (t refl) h)
argument_holds Hole w o h t = he_have o h (r_atom a_hole)
argument_holds Prop w o h t = he_have o h (r_atom a_prop)
argument_holds Universe w o h t = he_have o h (r_atom a_type)
argument_holds Open w o h t = he_want (o_inside o h) (ah_first tt)
argument_holds _ w o h t = tt

-- the arguments so far and one more
pub further : {k : Stack} {b : Before} {a : Part} {e f : Bool} {vs ts us : List Leaf} → (b ≡ alone → ⊥)
    → Ahead k b f vs ts → IsArg (depth k) f (count b) ts a e us → Ahead k (next b a) e vs us
further n (ah_first p) h = ah_behind p (p_head h)
further n (ah_behind p i) h = ah_behind p (p_more i h)
further n ah_alone h = absurd (n refl)
further n (ah_making i) h = ah_making (m_more i h)

-- an argument that isn't the first
argued : {k : Stack} {a : Part} {e f : Bool} {all vs ts us : List Leaf} (b : Before) (m : Mark) (w : Sign)
    → (b ≡ alone → ⊥) → Opened all k vs → Ahead k b f vs ts
    → IsArg (depth k) f (count b) ts a e (argument_leaf (next b a) k m w ∷ us) → (m ≡ At → e ≡ false)
    → Then all (argument (next b a) k m w) us
argued b m w n o h i t = argument_holds m w o (further n h i) t

closes : {k : Stack} {b : Before} {a : Part} {e f : Bool} {z : Sign} {all vs ts us : List Leaf} (m : Mark)
    → Opened all k vs → Ahead k b f vs ts → IsArg (depth k) f (count b) ts a e (leaf m z (closing k) 0 ∷ us)
    → Then all (closed k m (spine_part (filled b a)) z) us
closes {k = k} m o h i = closed_holds k m o (whole_term h i)

applied_holds : {k : Stack} {a : Part} {e f : Bool} {all vs ts us : List Leaf} (b : Before) (m : Mark) (w : Sign)
    → Opened all k vs → Ahead k b f vs ts
    → IsArg (depth k) f (count b) ts a e (argument_or_close_leaf (next b a) k m w ∷ us) → (m ≡ At → e ≡ false)
    → Then all (applied_or_closed b a k m w) us
applied_holds alone Ident w o h i t = tt
applied_holds alone (Pair s) w o h i t = tt
applied_holds alone At w o h i t = tt
applied_holds alone Hole w o h i t = tt
applied_holds alone Prop w o h i t = tt
applied_holds alone Universe w o h i t = tt
applied_holds alone Open w o h i t = tt
applied_holds first Ident w o h i t = argued first Ident w (λ q. cc) o h i t
applied_holds first (Pair x) w o h i t = argued first (Pair x) w (λ q. cc) o h i t
applied_holds first At w o h i t = argued first At w (λ q. cc) o h i t
applied_holds first Hole w o h i t = argued first Hole w (λ q. cc) o h i t
applied_holds first Prop w o h i t = argued first Prop w (λ q. cc) o h i t
applied_holds first Universe w o h i t = argued first Universe w (λ q. cc) o h i t
applied_holds first Open w o h i t = argued first Open w (λ q. cc) o h i t
applied_holds (behind s) Ident w o h i t = argued (behind s) Ident w (λ q. cc) o h i t
applied_holds (behind s) (Pair x) w o h i t = argued (behind s) (Pair x) w (λ q. cc) o h i t
applied_holds (behind s) At w o h i t = argued (behind s) At w (λ q. cc) o h i t
applied_holds (behind s) Hole w o h i t = argued (behind s) Hole w (λ q. cc) o h i t
applied_holds (behind s) Prop w o h i t = argued (behind s) Prop w (λ q. cc) o h i t
applied_holds (behind s) Universe w o h i t = argued (behind s) Universe w (λ q. cc) o h i t
applied_holds (behind s) Open w o h i t = argued (behind s) Open w (λ q. cc) o h i t
applied_holds (making s) Ident w o h i t = argued (making s) Ident w (λ q. cc) o h i t
applied_holds (making s) (Pair x) w o h i t = argued (making s) (Pair x) w (λ q. cc) o h i t
applied_holds (making s) At w o h i t = argued (making s) At w (λ q. cc) o h i t
applied_holds (making s) Hole w o h i t = argued (making s) Hole w (λ q. cc) o h i t
applied_holds (making s) Prop w o h i t = argued (making s) Prop w (λ q. cc) o h i t
applied_holds (making s) Universe w o h i t = argued (making s) Universe w (λ q. cc) o h i t
applied_holds (making s) Open w o h i t = argued (making s) Open w (λ q. cc) o h i t
applied_holds first m w o h i t = closes m o h i
applied_holds (behind s) m w o h i t = closes m o h i
applied_holds alone m w o h i t = closes m o h i
applied_holds (making s) m w o h i t = closes m o h i

arrowed_holds : {k : Stack} {a : Part} {e f : Bool} {w : Sign} {all vs ts us : List Leaf} (b : Before)
    → Opened all k vs → Ahead k b f vs ts → IsArg (depth k) f (count b) ts a e (leaf Arrow w (depth k) 0 ∷ us)
    → Then all (arrowed b a k) us
arrowed_holds first o (ah_first p) i = he_want (o_right o p (p_head i)) (ah_first tt)
arrowed_holds (behind s) o (ah_behind p j) i = he_want (o_right o p (p_more j i)) (ah_first tt)
arrowed_holds alone o h i = tt
arrowed_holds (making s) o h i = tt

pub after_argument_holds : {b : Before} {k : Stack} {a : Part} {f : Bool} {all vs ts us : List Leaf} (e : Bool) (m : Mark) (w : Sign)
    → Opened all k vs → Ahead k b f vs ts → IsArg (depth k) f (count b) ts a e (behind_leaf b a e k m w ∷ us)
    → Then all (after_argument b a e k m w) us
after_argument_holds e Project w o h i = he_projecting o h i
after_argument_holds {b = b} e Arrow w o h i = arrowed_holds b o h i
after_argument_holds true At w o h i = he_universe_at o h i
after_argument_holds {b = b} false At w o h i = applied_holds b At w o h i (λ q. refl)
after_argument_holds {b = b} e m w o h i = applied_holds b m w o h i (λ q. absurd (cc))
