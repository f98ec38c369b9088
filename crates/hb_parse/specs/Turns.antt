-- One token, by what the reader makes of it.
use Rattle.std.specs.Prelude.{◌≡◌, ℕ, ◌-◌, ◌≤◌, Bool, List, length, cond, Some, None, IsSome}
use Rattle.hb_base.specs.declared.span.Span.{Span}
use Rattle.hb_base.specs.declared.names.NamesRefused.{NamesRefused}
use Rattle.hb_base.specs.declared.names.NamesRefused.TheVariants as faults
use Rattle.hb_lex.specs.declared.token.TokenKind.{TokenKind}
use Rattle.hb_grammar.specs.declared.mark.Mark.{Mark}
use Rattle.hb_grammar.specs.Leaf.{Sign}
use Rattle.hb_grammar.specs.Machine.{State, step, read}
use Rattle.hb_grammar.specs.Places.{IsWithin, place_of}
use Rattle.hb_reader.specs.Needs.{need}
use Rattle.hb_parse.specs.declared.turn.Stop.{Stop}
use Rattle.hb_parse.specs.declared.turn.Stop.TheVariants.{Stuck, Deep, Full, NoMemory}
use Rattle.hb_base.specs.declared.count.Count.TheVariants as counts
use Rattle.hb_lex.specs.declared.token.Token.{Token}
use Rattle.hb_parse.specs.declared.error.ParseRefused.{ParseRefused}
use Rattle.hb_parse.specs.declared.error.ParseRefused.TheVariants.{Syntax, TooDeep, TooMany}
use Rattle.hb_parse.specs.declared.error.ParseRefused.TheVariants as refused
use Rattle.hb_parse.specs.Answers.{limits, place_at}
use Rattle.hb_parse.specs.Signs.{Numbering, Agrees, sign_of}
use Rattle.hb_parse.specs.Numbers.{Counts, Lacks, number_uses}
use Rattle.hb_parse.specs.Marks.{mark_of}

-- the token is within the limits, or passes one
abbrev pub Fits : State → Mark → Type 0
Fits s m = (w : Sign) → IsWithin limits (read s m w)

abbrev pub Passes : State → Mark → Type 0
Passes s m = (w : Sign) → ¬ (IsWithin limits (read s m w))

-- where an argument that the token begins has begun
abbrev pub IsLate : State → Mark → ℕ → ℕ → Type 0
IsLate s m n k = (w : Sign) → place_of (read s m w) n ≡ k

abbrev pub begun : Bool → ℕ → ℕ
begun late n = cond late (n - 1) n

-- why the reader stops at a token that says w
abbrev pub Halts : State → Mark → Sign → Stop → Type 0
Halts s m w Stuck = step s m w ≡ None
Halts s m w (Deep late) = IsSome (step s m w) × Passes s m × ((n : ℕ) → IsLate s m n (begun late n))
Halts s m w Full = ⊥
Halts s m w NoMemory = Unit {0}

-- the token leads from one state to another, whatever numbers other names have
abbrev pub Goes : List (List ℕ) → State → TokenKind → List ℕ → Span → State → Type 0
Goes names s k text place t =
    (ν : Numbering) → Agrees ν names → step s (mark_of k text) (sign_of ν k text place) ≡ Some t

-- the names that the token needs are numbered, and no others
abbrev pub Counted : List (List ℕ) → List (List ℕ) → State → Mark → State → Type 0
Counted old new s m t =
    (w : Sign) × (step s m w ≡ Some t) × ((i : ℕ) → Counts i old new (number_uses i (need s m) w.whole w.first))

-- why the reader stops at a token of the kind with this text
abbrev pub Stops : List (List ℕ) → State → Mark → List ℕ → Stop → Type 0
Stops names s m text Stuck = (w : Sign) → step s m w ≡ None
Stops names s m text (Deep late) = ((w : Sign) → IsSome (step s m w)) × Passes s m × ((n : ℕ) → IsLate s m n (begun late n))
Stops names s m text Full =
    ((w : Sign) → IsSome (step s m w)) × Fits s m × (65535 ≤ length names)
    × Lacks names (need s m) text
Stops names s m text NoMemory = Unit {0}

-- why the reader stops at a token with a name that gets no number
abbrev pub Overfull : State → Mark → Sign → NamesRefused → Stop → Type 0
Overfull s m w fault Full = (fault ≡ faults.TooMany) × IsSome (step s m w) × Fits s m
Overfull s m w fault e = Halts s m w e

-- the refusal at token number i
abbrev pub refusal : List ℕ → List Token → ℕ → Stop → ParseRefused
refusal bytes ts i Stuck = Syntax (place_at bytes ts i)
refusal bytes ts i (Deep late) = TooDeep (place_at bytes ts (begun late i))
refusal bytes ts i Full = TooMany counts.Names (place_at bytes ts i)
refusal bytes ts i NoMemory = refused.NoMemory
