-- One token: from what the reader makes of the numbers that it was given to what it makes of all.
use Rattle.std.proofs.Common.{◌≡◌, ℕ, ◌≤◌, List, length, Option, Some, None, is_some, IsSome, refl, sym, ap, ◌∙◌, subst}
use Rattle.hb_base.specs.declared.name_id.NameId.{NameId}
use Rattle.hb_base.specs.declared.names.NamesRefused.{NamesRefused}
use Rattle.hb_base.specs.declared.names.NamesRefused.TheVariants as faults
use Rattle.hb_base.specs.declared.span.Span.{Span}
use Rattle.hb_lex.specs.declared.token.TokenKind.{TokenKind}
use Rattle.hb_grammar.specs.declared.mark.Mark.{Mark}
use Rattle.hb_grammar.specs.Leaf.{Sign}
use Rattle.hb_grammar.specs.Machine.{State, step}
use Rattle.hb_reader.specs.declared.need.Need.{Need}
use Rattle.hb_reader.specs.declared.need.Need.TheVariants.{Nothing, Whole, First, Both}
use Rattle.hb_reader.specs.Needs.{Agree, need}
use Rattle.hb_parse.specs.declared.turn.Stop.{Stop}
use Rattle.hb_parse.specs.declared.turn.Stop.TheVariants.{Stuck, Deep, Full, NoMemory}
use Rattle.hb_parse.specs.Marks.{mark_of}
use Rattle.hb_parse.specs.Numbers.{AreNumbers, Counts, Lacks, number_uses}
use Rattle.hb_parse.specs.Signs.{Numbering, Agrees, value_of, sign_of}
use Rattle.hb_parse.specs.Turns.{Counted, Goes, Halts, Overfull, Stops}
use Rattle.hb_parse.proofs.Alike.{moves_alike}

-- the sign with the numbers that a token needs is that of each numbering
agreeing : (names : List (List ℕ)) (k : TokenKind) (text : List ℕ) (place : Span) (need : Need) (whole first : NameId) (v : ℕ)
    → v ≡ value_of k text → AreNumbers names need text whole first → (ν : Numbering) → Agrees ν names
    → Agree need (record { whole = whole; first = first; value = v; place = place }) (sign_of ν k text place)
agreeing names k text place Nothing whole first v e n ν a = (e, refl)
agreeing names k text place Whole whole first v e n ν a = (e, refl, sym (a text whole.0 n))
agreeing names k text place First whole first v e n ν a = (e, refl, sym (a _ first.0 n))
agreeing names k text place Both whole first v e n ν a = (e, refl, sym (a text whole.0 n.0), sym (a _ first.0 n.1))

pub goes : (names : List (List ℕ)) (s t : State) (k : TokenKind) (text : List ℕ) (place : Span) (m : Mark) (need : Need) (whole first : NameId) (v : ℕ)
    → m ≡ mark_of k text → v ≡ value_of k text → AreNumbers names need text whole first
    → ((w v : Sign) → Agree need w v → step s m w ≡ step s m v)
    → step s m (record { whole = whole; first = first; value = v; place = place }) ≡ Some t → Goes names s k text place t
goes names s t k text place m need whole first v e f n suffices h ν a =
    ap (λ x. step s x (sign_of ν k text place)) (sym e)
    ∙ (sym (suffices _ _ (agreeing names k text place need whole first v f n ν a)) ∙ h)

none_alike : {X : Type 0} (o p : Option X) → is_some o ≡ is_some p → o ≡ None → p ≡ None
none_alike o None e h = refl
none_alike None (Some x) e h = absurd (cc)
none_alike (Some y) (Some x) e h = absurd (cc)

some_alike : {X : Type 0} (o p : Option X) → is_some o ≡ is_some p → IsSome o → IsSome p
some_alike o p e h = sym e ∙ h

pub halts : (names : List (List ℕ)) (s : State) (m : Mark) (text : List ℕ) (w : Sign) (e : Stop) → Halts s m w e → Stops names s m text e
halts names s m text w Stuck h = λ v. none_alike (step s m w) (step s m v) (moves_alike s m w v) h
halts names s m text w (Deep late) h = (λ v. some_alike (step s m w) (step s m v) (moves_alike s m w v) h.0, h.1, h.2)
halts names s m text w Full h = absurd h
halts names s m text w NoMemory h = tt

pub overfull : (names : List (List ℕ)) (s : State) (m : Mark) (text : List ℕ) (w : Sign) (d : Need) (fault : NamesRefused)
    → (IsSome (step s m w) → d ≡ need s m) → (fault ≡ faults.TooMany → (65535 ≤ length names) × Lacks names d text)
    → (e : Stop) → Overfull s m w fault e → Stops names s m text e
overfull names s m text w d fault exactly full Full h =
    let f = full h.0 in
    (λ v. some_alike (step s m w) (step s m v) (moves_alike s m w v) h.1, h.2, f.0, subst (λ (x : Need). Lacks names x text) (exactly h.1) f.1)
overfull names s m text w d fault exactly full Stuck h = halts names s m text w Stuck h
overfull names s m text w d fault exactly full (Deep late) h = halts names s m text w (Deep late) h
overfull names s m text w d fault exactly full NoMemory h = tt

pub counted : (old new : List (List ℕ)) (s t : State) (m : Mark) (w : Sign) (d : Need) → step s m w ≡ Some t
    → (IsSome (step s m w) → d ≡ need s m) → ((i : ℕ) → Counts i old new (number_uses i d w.whole w.first)) → Counted old new s m t
counted old new s t m w d h exactly c =
    let e : d ≡ need s m = exactly (ap is_some h) in
    (w, h, λ i. subst (λ (x : Need). Counts i old new (number_uses i x w.whole w.first)) e (c i))
