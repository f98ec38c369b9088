-- Readings and places, from the reader's way through the tokens.
use Rattle.std.proofs.Common.{◌≡◌, ℕ, Bool, true, false, List, [], ◌∷◌, ◌++◌, Option, Some, None, refl, ap, ◌∙◌, sym, subst}
use Rattle.hb_raw.specs.declared.word.Word.{Word}
use Rattle.hb_raw.specs.Sentence.{Sentence}
use Rattle.hb_grammar.specs.declared.mark.Mark.{Mark}
use Rattle.hb_grammar.specs.declared.mark.Mark.TheVariants.{Ident, Pair, Prop, Universe, Forall, Fun, Hole, Open, Brace, Arrow, At, Project}
use Rattle.hb_grammar.specs.Leaf.{Sign, Leaf}
use Rattle.hb_grammar.specs.Part.{Part}
use Rattle.hb_grammar.specs.Grammar.{IsSentence, IsFile, file_none, file_more}
use Rattle.hb_grammar.specs.Machine.{Before, next, Stack, Binding, Placing, State, begin, done, want, have, more, universe_at, binders, bares, groups, conditioned, placing, place_names, step, argument_leaf, bracket_leaf, begun_leaf, argument_or_close_leaf, behind_leaf, universe_at_leaf, binding_leaf, placing_leaf, place_leaf, read}
use Rattle.hb_grammar.proofs.Holds.{Held, he_begin, he_done, Holds, Then}
use Rattle.std.proofs.Common.{All}
use Rattle.std.proofs.lemmas.List.Elements.{All-nil, All-push}
use Rattle.std.proofs.lemmas.List.{append_assoc, append-nil, map-append}
use Rattle.std.proofs.Common.{◌+◌, ◌<◌, length, get_or, take as front_of, arith}
use Rattle.std.proofs.lemmas.List.{take_more, length-take-le, length-map}
use Rattle.hb_grammar.specs.Places.{SyntaxAt, at_token, at_end, DeepAt, deep, place_of}
use Rattle.hb_grammar.specs.Places.{Seen, seen, token, tokens, Most, IsWithin, BeginsFile, Reads, Front}
use Rattle.hb_grammar.specs.Run.{Outcome, outcome, behind_leaf_of, finish, run}
use Rattle.hb_grammar.proofs.Leads.{Leads, stay, move, mark_at, sign_at}
use Rattle.hb_grammar.proofs.Unique.{IsMoving, moves, run_step, done_run, file_run}
use Rattle.hb_grammar.proofs.Steps.{step_holds}
use Rattle.hb_grammar.proofs.Live.{ends}

-- the token of a leaf that the reader reads
argument_seen : (b : Before) (k : Stack) (m : Mark) (w : Sign) → token (argument_leaf b k m w) ≡ seen m w
argument_seen b k Open w = refl
argument_seen b k _ w = refl

bracket_seen : (d : ℕ) (m : Mark) (w : Sign) → token (bracket_leaf d m w) ≡ seen m w
bracket_seen d Open w = refl
bracket_seen d _ w = refl

begun_seen : (b : Before) (k : Stack) (m : Mark) (w : Sign) → token (begun_leaf b k m w) ≡ seen m w
begun_seen b k Forall w = refl
begun_seen b k Fun w = refl
begun_seen b k m w = argument_seen b k m w

close_seen : (b : Before) (k : Stack) (m : Mark) (w : Sign) → token (argument_or_close_leaf b k m w) ≡ seen m w
close_seen b k Ident w = refl
close_seen b k (Pair s) w = refl
close_seen b k At w = refl
close_seen b k Hole w = refl
close_seen b k Prop w = refl
close_seen b k Universe w = refl
close_seen b k Open w = refl
close_seen b k _ w = refl

behind_seen : (b : Before) (a : Part) (e : Bool) (k : Stack) (m : Mark) (w : Sign) → token (behind_leaf b a e k m w) ≡ seen m w
behind_seen b a e k Project w = refl
behind_seen b a e k Arrow w = refl
behind_seen b a true k At w = refl
behind_seen b a false k At w = refl
behind_seen b a e k m w = close_seen (next b a) k m w

universe_seen : (b : Before) (a : Part) (k : Stack) (m : Mark) (w : Sign) → token (universe_at_leaf b a k m w) ≡ seen m w
universe_seen b a k Brace w = refl
universe_seen b a k _ w = refl

binding_seen : (b : Binding) (m : Mark) (w : Sign) → token (binding_leaf b m w) ≡ seen m w
binding_seen b Open w = refl
binding_seen b _ w = refl

placing_seen : (p : Placing) (m : Mark) (w : Sign) → token (placing_leaf p m w) ≡ seen m w
placing_seen p Open w = refl
placing_seen p _ w = refl

place_seen : (ws : List Word) (m : Mark) (w : Sign) → token (place_leaf ws m w) ≡ seen m w
place_seen ws Ident w = refl
place_seen ws _ w = refl

read_seen : (s : State) (m : Mark) (w : Sign) → token (read s m w) ≡ seen m w
read_seen (want b k) m w = begun_seen b k m w
read_seen (have b a e k) m w = behind_seen b a e k m w
read_seen (more b k) m w = close_seen b k m w
read_seen (universe_at b a x k) m w = universe_seen b a k m w
read_seen (binders b) m w = binding_seen b m w
read_seen (bares b xs) m w = binding_seen b m w
read_seen (groups b gs n) m w = binding_seen b m w
read_seen (conditioned i) m w = bracket_seen 0 m w
read_seen (placing p) m w = placing_seen p m w
read_seen (place_names p x k ws) m w = place_seen ws m w
read_seen _ m w = refl

-- the finished sentences, and the state of the next
abbrev pub settled : List Sentence → State → List Sentence
settled cs (done c) = cs ++ (c ∷ [])
settled cs s = cs

abbrev pub settle : State → State
settle (done c) = begin
settle s = s

-- the reader came over these tokens, within the limits, to these sentences and this state
pub record Came (most : Most) (ts : List Seen) (cs : List Sentence) (s : State) : Type 0 where
  pub leaves : List Leaf
  pub are : tokens leaves ≡ ts
  pub within : All (IsWithin most) leaves
  pub rest : List Leaf → List Leaf
  pub file : (us : List Leaf) → IsFile (leaves ++ us) cs (rest us)
  pub holds : (us : List Leaf) → Holds (rest us) s us
  pub runs : (more : List Seen) (us : List Leaf) (ds : List Sentence)
      → run [] (Some begin) (ts ++ more) ≡ Some (outcome us ds) → (vs : List Leaf) × (run cs (Some s) more ≡ Some (outcome vs ds))

pub came-none : (most : Most) → Came most [] [] begin
came-none most = record {
  leaves = [];
  are = refl;
  within = All-nil (IsWithin most);
  rest = λ us. us;
  file = λ us. file_none;
  holds = λ us. he_begin;
  runs = λ more us ds e. (us, e);
}

unbehind : (l : Leaf) {vs : List Leaf} {ds : List Sentence} (o : Option Outcome) → behind_leaf_of l o ≡ Some (outcome vs ds)
    → (us : List Leaf) × (o ≡ Some (outcome us ds))
unbehind l None e = absurd (cc)
unbehind l (Some (outcome us es)) e = (us, cc)

was_sentence : {c : Sentence} {all us : List Leaf} → Held all (done c) us → IsSentence all c us
was_sentence (he_done h) = h

-- a step that isn't settled yet
record Stepped (most : Most) (ts : List Seen) (cs : List Sentence) (t : State) : Type 0 where
  leaves : List Leaf
  are : tokens leaves ≡ ts
  within : All (IsWithin most) leaves
  rest : List Leaf → List Leaf
  file : (us : List Leaf) → IsFile (leaves ++ us) cs (rest us)
  holds : (us : List Leaf) → Holds (rest us) t us
  runs : (more : List Seen) (us : List Leaf) (ds : List Sentence)
      → run [] (Some begin) (ts ++ more) ≡ Some (outcome us ds) → (vs : List Leaf) × (run cs (Some t) more ≡ Some (outcome vs ds))

settles : {most : Most} {ts : List Seen} {cs : List Sentence} (t : State) → Stepped most ts cs t → Came most ts (settled cs t) (settle t)
settles {cs = cs} (done c) h = record {
  leaves = h.leaves;
  are = h.are;
  within = h.within;
  rest = λ us. us;
  file = λ us. file_more (h.file us) (was_sentence (h.holds us));
  holds = λ us. he_begin;
  runs = λ more us ds e. let r = h.runs more us ds e in (r.0, sym (done_run cs c more) ∙ r.1);
}
settles t h = record {
  leaves = h.leaves;
  are = h.are;
  within = h.within;
  rest = h.rest;
  file = h.file;
  holds = h.holds;
  runs = h.runs;
}

then_holds : (all us : List Leaf) (o : Option State) {t : State} → o ≡ Some t → Then all o us → Holds all t us
then_holds all us None e h = absurd (cc)
then_holds all us (Some s) {t = t} e h =
    let k : s ≡ t = cc in
    subst (λ (x : State). Holds all x us) k h

pub came-more : {most : Most} {ts : List Seen} {cs : List Sentence} {s : State} (m : Mark) (w : Sign) (t : State) → Came most ts cs s
    → step s m w ≡ Some t → IsWithin most (read s m w) → Came most (ts ++ (seen m w ∷ [])) (settled cs t) (settle t)
came-more {most = most} {ts = ts} {cs = cs} {s = s} m w t c e fits =
    let l : Leaf = read s m w in
    settles t (record {
      leaves = c.leaves ++ (l ∷ []);
      are = map-append token c.leaves (l ∷ []) ∙ (ap (λ x. x ++ (token l ∷ [])) c.are ∙ ap (λ x. ts ++ (x ∷ [])) (read_seen s m w));
      within = All-push (IsWithin most) c.leaves l c.within fits;
      rest = λ us. c.rest (l ∷ us);
      file = λ us. rw (append_assoc c.leaves (l ∷ []) us) (c.file (l ∷ us));
      holds = λ us. then_holds (c.rest (l ∷ us)) us (step s m w) e (step_holds s m w (c.rest (l ∷ us)) us (c.holds (l ∷ us)));
      runs = λ more us ds f.
          let q = c.runs (seen m w ∷ more) us ds (ap (λ x. run [] (Some begin) x) (sym (append_assoc ts (seen m w ∷ []) more)) ∙ f) in
          let r = sym (run_step s cs m w more (moves s m w e)) ∙ q.1 in
          let v = unbehind l (run cs (step s m w) more) r in
          (v.0, ap (λ o. run cs o more) (sym e) ∙ v.1);
    })

-- from a state to the end of its sentence
leads_hold : {s t : State} {ts us : List Leaf} → Leads s ts t us → (all : List Leaf) → Holds all s ts → Holds all t us
leads_hold stay all h = h
leads_hold {s = s} (move {l = l} {ts = ts} e f i) all h =
    let g : Holds all s (read s (mark_at l) (sign_at l) ∷ ts) = subst (λ (x : Leaf). Holds all s (x ∷ ts)) (sym f) h in
    leads_hold i all (then_holds all ts (step s (mark_at l) (sign_at l)) e (step_holds s (mark_at l) (sign_at l) all ts g))

pub came-begins : {most : Most} {ts : List Seen} {cs : List Sentence} {s : State} (c : Came most ts cs s) → BeginsFile c.leaves
came-begins {s = s} c =
    let e = ends s c.rest c.holds in
    (e.leaves, _, file_more (c.file e.leaves) (was_sentence (leads_hold e.leads (c.rest e.leaves) (c.holds e.leaves))))

pub came-front : {most : Most} {ts : List Seen} {cs : List Sentence} {s : State} → Came most ts cs s → Front most ts
came-front c = record { leaves = c.leaves; are = c.are; within = c.within; begins = came-begins c }

-- a file's tokens run to the end
runs_through : (ls later : List Leaf) {cs : List Sentence} → IsFile (ls ++ later) cs []
    → run [] (Some begin) (tokens ls ++ tokens later) ≡ Some (outcome (ls ++ later) cs)
runs_through ls later {cs = cs} h =
    ap (λ x. run [] (Some begin) x) (sym (map-append token ls later)) ∙ file_run h cs refl

pub came-stuck : {most : Most} {ts : List Seen} {cs : List Sentence} {s : State} (m : Mark) (w : Sign) → Came most ts cs s
    → IsMoving s → step s m w ≡ None → (ls : List Leaf) → tokens ls ≡ ts ++ (seen m w ∷ []) → ¬ (BeginsFile ls)
came-stuck {ts = ts} {cs = cs} {s = s} m w c p e ls a (later, ds, h) =
    let r = runs_through ls later h in
    let q = c.runs (seen m w ∷ tokens later) (ls ++ later) ds
    (ap (λ x. run [] (Some begin) x) (sym (append_assoc ts (seen m w ∷ []) (tokens later)) ∙ ap (λ x. x ++ tokens later) (sym a)) ∙ r) in
    let n = run_step s cs m w (tokens later) p in
    let k = ap (λ o. behind_leaf_of (read s m w) (run cs o (tokens later))) e in
    let v : None ≡ Some (outcome q.0 ds) = sym k ∙ (sym n ∙ q.1) in
    absurd (cc)

at_begin : {ls all : List Leaf} {cs : List Sentence} → Held all begin [] → IsFile ls cs all → IsFile ls cs []
at_begin he_begin h = h

pub came-reads : {most : Most} {ts : List Seen} {cs : List Sentence} → Came most ts cs begin → Reads most ts cs
came-reads {cs = cs} c = record {
  leaves = c.leaves;
  are = c.are;
  within = c.within;
  file = at_begin (c.holds []) (subst (λ (x : List Leaf). IsFile x cs (c.rest [])) (append-nil c.leaves) (c.file []));
}

pub came-short : {most : Most} {ts : List Seen} {cs : List Sentence} {s : State} → Came most ts cs s → finish cs s ≡ None
    → (ls : List Leaf) (ds : List Sentence) → tokens ls ≡ ts → ¬ (IsFile ls ds [])
came-short {ts = ts} {cs = cs} {s = s} c e ls ds a h =
    let q = c.runs [] ls ds (ap (λ x. run [] (Some begin) x) (append-nil ts ∙ sym a) ∙ file_run h ds refl) in
    let v : None ≡ Some (outcome q.0 ds) = sym e ∙ q.1 in
    absurd (cc)

-- the places
pub came-syntax : {most : Most} {all : List Seen} {cs : List Sentence} {s : State} (m : Mark) (w : Sign) (at : ℕ) (d : Seen)
    → at < length all → get_or all at d ≡ seen m w → Came most (front_of at all) cs s → IsMoving s → step s m w ≡ None
    → SyntaxAt most all at
came-syntax {all = all} m w at d l g c p e =
    at_token l (came-front c) (λ ls a.
    came-stuck m w c p e ls (a ∙ (take_more all at d l ∙ ap (λ x. front_of at all ++ (x ∷ [])) g)))

pub came-cut : {most : Most} {all : List Seen} {cs : List Sentence} {s : State} → Came most all cs s → finish cs s ≡ None
    → SyntaxAt most all (length all)
came-cut c e = at_end refl (came-front c) (came-short c e)

-- with one more token the leaves still begin a file
more-begins : {most : Most} {ts : List Seen} {cs : List Sentence} {s : State} (m : Mark) (w : Sign) (t : State)
    → (c : Came most ts cs s) → step s m w ≡ Some t → BeginsFile (c.leaves ++ (read s m w ∷ []))
more-begins {cs = cs} {s = s} m w t c e =
    let l : Leaf = read s m w in
    let h : (us : List Leaf) → Holds (c.rest (l ∷ us)) t us =
    λ us. then_holds (c.rest (l ∷ us)) us (step s m w) e (step_holds s m w (c.rest (l ∷ us)) us (c.holds (l ∷ us))) in
    let v = ends t (λ us. c.rest (l ∷ us)) h in
    let f = file_more (c.file (l ∷ v.leaves)) (was_sentence (leads_hold v.leads (c.rest (l ∷ v.leaves)) (h v.leaves))) in
    (v.leaves, cs ++ (v.sentence_of ∷ []), rw (append_assoc c.leaves (l ∷ []) v.leaves) f)

pub came-deep : {most : Most} {all : List Seen} {cs : List Sentence} {s : State} (m : Mark) (w : Sign) (t : State) (at : ℕ) (d : Seen)
    → at < length all → get_or all at d ≡ seen m w → Came most (front_of at all) cs s → step s m w ≡ Some t
    → ¬ (IsWithin most (read s m w)) → DeepAt most all (place_of (read s m w) at)
came-deep {all = all} {s = s} m w t at d l g c e over =
    let k : length c.leaves ≡ at =
    sym (length-map c.leaves token) ∙ (ap length c.are ∙ length-take-le at all (omega arith)) in
    let a : tokens (c.leaves ++ (read s m w ∷ [])) ≡ front_of (at + 1) all =
    map-append token c.leaves (read s m w ∷ [])
    ∙ (ap (λ x. x ++ (token (read s m w) ∷ [])) c.are
    ∙ (ap (λ x. front_of at all ++ (x ∷ [])) (read_seen s m w ∙ sym g) ∙ sym (take_more all at d l))) in
    deep c.leaves (read s m w) (a ∙ ap (λ n. front_of (n + 1) all) (sym k)) (ap (λ n. place_of (read s m w) n) (sym k))
    c.within over (more-begins m w t c e)
