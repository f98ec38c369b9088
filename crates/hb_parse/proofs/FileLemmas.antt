-- A file, from the reader's way through its tokens.
use Rattle.std.proofs.Common.{◌≡◌, ℕ, ◌+◌, ◌<◌, ◌≤◌, Bool, true, false, IsSome, zero, suc, List, [], ◌∷◌, ◌++◌, length, take, get_or, Option, Some, None, refl, sym, ap, ◌∙◌, subst, arith, slice_get}
use Rattle.std.proofs.lemmas.List.{take_more, take_all, get_or-map, length-map, append_assoc, map-append}
use Rattle.std.proofs.lemmas.Option.{slice_get-get_or}
use Rattle.hb_raw.specs.declared.command.Command.{Command}
use Rattle.hb_raw.specs.Sentence.{Sentence}
use Rattle.hb_raw.specs.Views.{command, sentences}
use Rattle.hb_lex.specs.declared.token.Token.{Token}
use Rattle.hb_lex.specs.declared.token.TokenKind.TheVariants as kind
use Rattle.hb_grammar.specs.declared.mark.Mark.{Mark}
use Rattle.hb_grammar.specs.Leaf.{Sign}
use Rattle.hb_grammar.specs.Machine.{State, begin, done, step}
use Rattle.hb_grammar.specs.Run.{finish}
use Rattle.hb_grammar.specs.Places.{Seen, seen, Front, SyntaxAt, DeepAt}
use Rattle.hb_grammar.proofs.Unique.{IsMoving}
use Rattle.hb_grammar.proofs.Way.{Came, came-more, came-front, came-reads, came-syntax, came-cut, came-deep, settled, settle}
use Rattle.hb_reader.specs.States.{finished_in, is_between}
use Rattle.hb_parse.specs.declared.turn.Stop.{Stop}
use Rattle.hb_parse.specs.declared.turn.Stop.TheVariants.{Stuck, Deep, Full, NoMemory}
use Rattle.hb_reader.specs.Needs.{need}
use Rattle.hb_parse.proofs.Loads.{Load}
use Rattle.hb_parse.proofs.Needed.{needed, lacked}
use Rattle.hb_parse.specs.Marks.{piece, mark_of}
use Rattle.hb_parse.specs.Signs.{Numbering, Agrees, sign_of, seen_of, file_of}
use Rattle.hb_parse.specs.Numbers.{Extends}
use Rattle.hb_parse.specs.Answers.{limits, ReadsAs, IsSyntaxAt, Refuses, file_end, span_or, place_at}
use Rattle.hb_parse.specs.Turns.{Fits, Goes, Stops, begun, refusal}

-- names that are held keep their numbers
pub agrees-old : (old new : List (List ℕ)) → Extends old new → (ν : Numbering) → Agrees ν new → Agrees ν old
agrees-old old new (more, e) ν a text i h = a text i (rw e (held old more i text h))
  where
    held : {X : Type 0} (xs ys : List X) (i : ℕ) (x : X) → slice_get xs i ≡ Some x → slice_get (xs ++ ys) i ≡ Some x
    held [] ys i x h = absurd (cc)
    held (y ∷ xs) ys zero x h = h
    held (y ∷ xs) ys (suc i) x h = held xs ys i x h

pub extends-more : (old mid new : List (List ℕ)) → Extends old mid → Extends mid new → Extends old new
extends-more old mid new (a, e) (b, f) = (a ++ b, f ∙ (ap (λ x. x ++ b) e ∙ append_assoc old a b))

-- token number i, as the grammar sees it
pub token_seen : (ν : Numbering) (bytes : List ℕ) (ts : List Token) (i : ℕ) (d : Token) (e : Seen) → i < length ts
    → get_or (file_of ν bytes ts) i e ≡ seen_of ν bytes (get_or ts i d)
token_seen ν bytes ts i d e l = get_or-map (seen_of ν bytes) ts i d e l

pub more_tokens : (ν : Numbering) (bytes : List ℕ) (ts : List Token) (i : ℕ) (t : Token) → i < length ts → t ≡ get_or ts i t
    → take (i + 1) (file_of ν bytes ts) ≡ take i (file_of ν bytes ts) ++ (seen_of ν bytes t ∷ [])
more_tokens ν bytes ts i t l e =
    take_more (file_of ν bytes ts) i (seen_of ν bytes t) (omega (arith, l, length-map ts (seen_of ν bytes)))
    ∙ ap (λ x. take i (file_of ν bytes ts) ++ (x ∷ [])) (token_seen ν bytes ts i t (seen_of ν bytes t) l ∙ ap (seen_of ν bytes) (sym e))

-- where the state behind a token isn't the end of a sentence
going_settled : (cs : List Sentence) (t : State) → finished_in t ≡ None → settled cs t ≡ cs
going_settled cs (done c) h = absurd (cc)
going_settled cs _ h = refl

going_settle : (t : State) → finished_in t ≡ None → settle t ≡ t
going_settle (done c) h = absurd (cc)
going_settle _ h = refl

pub going_moving : (t : State) → finished_in t ≡ None → IsMoving t
going_moving (done c) h = absurd (cc)
going_moving _ h = tt

-- what stands for a token past the end
abbrev pub no_token : Token
no_token = record { kind = kind.Name; span = record { file = 0; from = 0; to = 0 } }

pub token_at : {X : Type 0} (ts : List X) (i : ℕ) (d e : X) → i < length ts → get_or ts i d ≡ get_or ts i e
token_at [] i d e l = absurd (omega (arith, l))
token_at (t ∷ ts) zero d e l = refl
token_at (t ∷ ts) (suc i) d e l = token_at ts i d e (omega (arith, l))

module _ (bytes : List ℕ) (ts : List Token) (i : ℕ) (t : Token) where
  -- what is known before a token
  abbrev pub Arrived : List (List ℕ) → List Sentence → State → Type 0
  Arrived names cs s = (ν : Numbering) → Agrees ν names → Came limits (take i (file_of ν bytes ts)) cs s

  abbrev mark : Mark
  mark = mark_of t.kind (piece bytes t.span)

  abbrev sign : Numbering → Sign
  sign ν = sign_of ν t.kind (piece bytes t.span) t.span

  inside : i < length ts → (ν : Numbering) → i < length (file_of ν bytes ts)
  inside l ν = omega (arith, l, length-map ts (seen_of ν bytes))

  stands : i < length ts → t ≡ get_or ts i t → (ν : Numbering)
      → get_or (file_of ν bytes ts) i (seen_of ν bytes t) ≡ seen mark (sign ν)
  stands l e ν = token_seen ν bytes ts i t (seen_of ν bytes t) l ∙ ap (seen_of ν bytes) (sym e)

  pub next_token : i < length ts → t ≡ get_or ts i t → (names : List (List ℕ)) (cs : List Sentence) (s u : State)
      → Arrived names cs s → Goes names s t.kind (piece bytes t.span) t.span u → Fits s mark
      → (ν : Numbering) → Agrees ν names → Came limits (take (i + 1) (file_of ν bytes ts)) (settled cs u) (settle u)
  next_token l e names cs s u came goes fits ν a =
      subst (λ (x : List Seen). Came limits x (settled cs u) (settle u)) (sym (more_tokens ν bytes ts i t l e))
      (came-more mark (sign ν) u (came ν a) (goes ν a) (fits (sign ν)))

  pub sentence_ends : (names : List (List ℕ)) (cs : List Command) (c : Command) (u : State) → u ≡ done (command c)
      → ((ν : Numbering) → Agrees ν names → Came limits (take (i + 1) (file_of ν bytes ts)) (settled (sentences cs) u) (settle u))
      → (ν : Numbering) → Agrees ν names → Came limits (take (i + 1) (file_of ν bytes ts)) (sentences (cs ++ (c ∷ []))) begin
  sentence_ends names cs c u e came ν a =
      let k : Came limits (take (i + 1) (file_of ν bytes ts)) (sentences cs ++ (command c ∷ [])) begin =
      subst (λ (x : State). Came limits (take (i + 1) (file_of ν bytes ts)) (settled (sentences cs) x) (settle x)) e (came ν a) in
      subst (λ (x : List Sentence). Came limits (take (i + 1) (file_of ν bytes ts)) x begin) (sym (map-append command cs (c ∷ []))) k

  pub sentence_goes_on : (names : List (List ℕ)) (cs : List Sentence) (u : State) → finished_in u ≡ None
      → ((ν : Numbering) → Agrees ν names → Came limits (take (i + 1) (file_of ν bytes ts)) (settled cs u) (settle u))
      → (ν : Numbering) → Agrees ν names → Came limits (take (i + 1) (file_of ν bytes ts)) cs u
  sentence_goes_on names cs u e came ν a =
      subst (λ (x : State). Came limits (take (i + 1) (file_of ν bytes ts)) cs x) (going_settle u e)
      (subst (λ (x : List Sentence). Came limits (take (i + 1) (file_of ν bytes ts)) x (settle u)) (going_settled cs u e) (came ν a))

  some_of : {X : Type 0} (o : Option X) → IsSome o → (x : X) × (o ≡ Some x)
  some_of None h = absurd (cc)
  some_of (Some x) h = (x, refl)

  begun_inside : (late : Bool) → i < length ts → begun late i < length ts
  begun_inside true l = omega arith
  begun_inside false l = l

  placed : i < length ts → t ≡ get_or ts i t → place_at bytes ts i ≡ t.span
  placed l e = ap (span_or (file_end bytes ts)) (slice_get-get_or ts i t l ∙ ap Some (sym e))

  pub stopped : i < length ts → t ≡ get_or ts i t → (names : List (List ℕ)) (cs : List Sentence) (s : State) (e : Stop)
      → Arrived names cs s → IsMoving s → ((j : ℕ) → (n : ℕ) × Load j s n) → Stops names s mark (piece bytes t.span) e
      → Refuses names bytes ts (refusal bytes ts i e)
  stopped l g names cs s Stuck came moving loads h = record {
    index = i;
    place = refl;
    stops = λ ν a. came-syntax mark (sign ν) i (seen_of ν bytes t) (inside l ν) (stands l g ν) (came ν a) moving (h (sign ν));
  }
  stopped l g names cs s (Deep late) came moving loads h = record {
    index = begun late i;
    inside = begun_inside late l;
    place = refl;
    passes = λ ν a.
        let next = some_of (step s mark (sign ν)) (h.0 (sign ν)) in
        subst (λ (n : ℕ). DeepAt limits (file_of ν bytes ts) n) (h.2 i (sign ν))
        (came-deep mark (sign ν) next.0 i (seen_of ν bytes t) (inside l ν) (stands l g ν) (came ν a) next.1 (h.1 (sign ν)));
  }
  stopped l g names cs s Full came moving loads h =
      let lack = lacked names (need s mark) (piece bytes t.span) h.3 in (
        refl,
        record {
          index = i;
          inside = l;
          place = refl;
          begins = λ ν a.
              let next = some_of (step s mark (sign ν)) (h.0 (sign ν)) in
              subst (λ (x : List Seen). Front limits x) (sym (more_tokens ν bytes ts i t l g))
              (came-front (came-more mark (sign ν) next.0 (came ν a) next.1 (h.1 (sign ν))));
          full = h.2;
          text = lack.0;
          needed = λ ν a ls ds more e f.
              let load = loads (ν lack.0).0 in
              needed (ν lack.0).0 mark (sign ν) load.0 (came ν a) moving load.1 (lack.2 ν) ls ds more
              (e ∙ ap (λ x. x ++ more) (more_tokens ν bytes ts i t l g)) f;
          absent = lack.1;
        },
      )
  stopped l g names cs s NoMemory came moving loads h = tt

-- the end of the file
pub at_begin : (s : State) → is_between s ≡ true → s ≡ begin
at_begin begin h = refl
at_begin (done c) h = absurd (cc)
at_begin _ h = absurd (cc)

not_finished : (cs : List Sentence) (s : State) → IsMoving s → is_between s ≡ false → finish cs s ≡ None
not_finished cs begin p h = absurd (cc)
not_finished cs (done c) p h = absurd p
not_finished cs _ p h = refl

pub file_read : (bytes : List ℕ) (ts : List Token) (i : ℕ) (names : List (List ℕ)) (cs : List Sentence) (s : State) → length ts ≤ i
    → ((ν : Numbering) → Agrees ν names → Came limits (take i (file_of ν bytes ts)) cs s) → is_between s ≡ true → ReadsAs names bytes ts cs
file_read bytes ts i names cs s l came h ν a =
    came-reads (subst (λ (x : State). Came limits (file_of ν bytes ts) cs x) (at_begin s h)
    (subst (λ (x : List Seen). Came limits x cs s) (take_all i (file_of ν bytes ts) (omega (arith, l, length-map ts (seen_of ν bytes)))) (came ν a)))

pub file_cut : (bytes : List ℕ) (ts : List Token) (i : ℕ) (names : List (List ℕ)) (cs : List Sentence) (s : State) → length ts ≤ i
    → ((ν : Numbering) → Agrees ν names → Came limits (take i (file_of ν bytes ts)) cs s) → IsMoving s → is_between s ≡ false
    → IsSyntaxAt names bytes ts (place_at bytes ts (length ts))
file_cut bytes ts i names cs s l came moving h = record {
  index = length ts;
  place = refl;
  stops = λ ν a.
      let c = subst (λ (x : List Seen). Came limits x cs s) (take_all i (file_of ν bytes ts) (omega (arith, l, length-map ts (seen_of ν bytes)))) (came ν a) in
      subst (λ (n : ℕ). SyntaxAt limits (file_of ν bytes ts) n) (length-map ts (seen_of ν bytes)) (came-cut c (not_finished cs s moving h));
}
