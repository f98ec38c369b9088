-- A file that reads within the limits has no fault of form.
use Rattle.std.proofs.Common.{◌≡◌, ℕ, ◌+◌, ◌<◌, ◌≤◌, zero, suc, List, [], ◌∷◌, ◌++◌, length, map, take as front_of, drop, get_or, Option, Some, None, refl, sym, ap, ◌∙◌, subst, arith, All, length-append}
use Rattle.std.proofs.lemmas.List.{take-map, take-append-drop, map-append, length-map, length-take, get_or-take}
use Rattle.std.proofs.Math.Seq.{take-append_seam, get_or-append_seam}
use Rattle.hb_raw.specs.Sentence.{Sentence}
use Rattle.hb_grammar.specs.Leaf.{Sign, Leaf}
use Rattle.hb_grammar.specs.declared.mark.Mark.{Mark}
use Rattle.hb_grammar.specs.Grammar.{IsFile}
use Rattle.hb_grammar.specs.Machine.{State, begin, done, step, read}
use Rattle.hb_grammar.specs.Places.{Seen, seen, token, tokens, Most, IsWithin, Reads, SyntaxAt, at_token, at_end, DeepAt, deep}
use Rattle.hb_grammar.specs.Run.{Outcome, outcome, behind_leaf_of, run}
use Rattle.hb_grammar.proofs.Unique.{file_run}
use Rattle.hb_lex.specs.declared.token.Token.{Token}
use Rattle.hb_parse.specs.declared.error.ParseRefused.{ParseRefused}
use Rattle.hb_parse.specs.declared.error.ParseRefused.TheVariants.{Syntax, TooDeep, TooMany, NoMemory}
use Rattle.hb_parse.specs.Answers.{limits, Refuses, IsFormFault}
use Rattle.hb_parse.specs.Signs.{Numbering, Agrees, file_of}

-- the leaves of a run
abbrev leaves_of : Option Outcome → List Leaf
leaves_of None = []
leaves_of (Some (outcome ls cs)) = ls

-- the state that the next token is read in, and the sentences before it
abbrev reader : State → State
reader (done c) = begin
reader s = s

abbrev told : List Sentence → State → List Sentence
told cs (done c) = cs ++ (c ∷ [])
told cs s = cs

run_token : (cs : List Sentence) (s : State) (m : Mark) (w : Sign) (ts : List Seen)
    → run cs (Some s) (seen m w ∷ ts) ≡ behind_leaf_of (read (reader s) m w) (run (told cs s) (step (reader s) m w) ts)
run_token cs (done c) m w ts = refl
run_token cs _ m w ts = refl

behind : (l : Leaf) (o : Option Outcome) (ls : List Leaf) (ds : List Sentence) → behind_leaf_of l o ≡ Some (outcome ls ds)
    → (ms : List Leaf) × (o ≡ Some (outcome ms ds)) × (ls ≡ l ∷ ms)
behind l None ls ds e = absurd (cc)
behind l (Some (outcome ms es)) ls ds e = let f : es ≡ ds = cc in (ms, ap (λ x. Some (outcome ms x)) f, cc)

-- runs that begin with the same tokens begin with the same leaves
runs_alike : (ts xs ys : List Seen) (cs : List Sentence) (o : Option State) (ls ms : List Leaf) (ds es : List Sentence)
    → run cs o (ts ++ xs) ≡ Some (outcome ls ds) → run cs o (ts ++ ys) ≡ Some (outcome ms es)
    → front_of (length ts) ls ≡ front_of (length ts) ms
runs_alike [] xs ys cs o ls ms ds es e f = refl
runs_alike (seen m w ∷ ts) xs ys cs None ls ms ds es e f = absurd (cc)
runs_alike (seen m w ∷ ts) xs ys cs (Some s) ls ms ds es e f =
    let l = read (reader s) m w in
    let p = behind l (run (told cs s) (step (reader s) m w) (ts ++ xs)) ls ds (sym (run_token cs s m w (ts ++ xs)) ∙ e) in
    let q = behind l (run (told cs s) (step (reader s) m w) (ts ++ ys)) ms es (sym (run_token cs s m w (ts ++ ys)) ∙ f) in
    let i = runs_alike ts xs ys (told cs s) (step (reader s) m w) p.0 q.0 ds es p.1 q.1 in
    ap (front_of (length (seen m w ∷ ts))) p.2 ∙ (ap (λ x. l ∷ x) i ∙ sym (ap (front_of (length (seen m w ∷ ts))) q.2))

module _ {most : Most} {ts : List Seen} {cs : List Sentence} (r : Reads most ts cs) where
  pub no_syntax : {at : ℕ} → SyntaxAt most ts at → ⊥
  no_syntax (at_end e f none) = none r.leaves cs r.are r.file
  no_syntax {at = at} (at_token l f none) =
      let a : tokens (front_of (at + 1) r.leaves) ≡ front_of (at + 1) ts = sym (take-map token (at + 1) r.leaves) ∙ ap (front_of (at + 1)) r.are in
      none (front_of (at + 1) r.leaves) a
      (drop (at + 1) r.leaves, cs, subst (λ (x : List Leaf). IsFile x cs []) (sym (take-append-drop (at + 1) r.leaves)) r.file)

  pub no_deep : {at : ℕ} → DeepAt most ts at → ⊥
  no_deep (deep ls l are e within over (more, ds, h)) =
      let front = ls ++ (l ∷ []) in
      let n = length front in
      let long : length ls + 1 ≡ n = omega (arith, length-append ls (l ∷ [])) in
      let a : run [] (Some begin) (tokens front ++ tokens more) ≡ Some (outcome (front ++ more) ds) =
      ap (λ x. run [] (Some begin) x) (sym (map-append token front more)) ∙ file_run h ds refl in
      let split : tokens r.leaves ≡ tokens front ++ drop (length ls + 1) ts =
      r.are ∙ (sym (take-append-drop (length ls + 1) ts) ∙ ap (λ x. x ++ drop (length ls + 1) ts) (sym are)) in
      let b : run [] (Some begin) (tokens front ++ drop (length ls + 1) ts) ≡ Some (outcome r.leaves cs) =
      ap (λ x. run [] (Some begin) x) (sym split) ∙ file_run r.file cs refl in
      let same = runs_alike (tokens front) (tokens more) (drop (length ls + 1) ts) [] (Some begin) (front ++ more) r.leaves ds cs a b in
      let here : front ≡ front_of n r.leaves =
      sym (take-append_seam front more) ∙ subst (λ (k : ℕ). front_of k (front ++ more) ≡ front_of k r.leaves) (length-map front token) same in
      let inside : length ls < length r.leaves = omega (arith, long, ap length here, length-take n r.leaves) in
      let last : get_or r.leaves (length ls) l ≡ l =
      sym (get_or-take n r.leaves (length ls) l (omega (arith, long)))
      ∙ (ap (λ x. get_or x (length ls) l) (sym here) ∙ get_or-append_seam ls l [] l) in
      over (subst (IsWithin most) last (r.within (length ls) l inside))

-- what reads has no fault of form
pub form_only : (names : List (List ℕ)) (bytes : List ℕ) (ts : List Token) (e : ParseRefused) → Refuses names bytes ts e → IsFormFault e
    → (ν : Numbering) → Agrees ν names → (cs : List Sentence) → Reads limits (file_of ν bytes ts) cs → ⊥
form_only names bytes ts (Syntax at) h p ν a cs r = no_syntax r (h.stops ν a)
form_only names bytes ts (TooDeep at) h p ν a cs r = no_deep r (h.passes ν a)
form_only names bytes ts (TooMany count at) h p ν a cs r = p
form_only names bytes ts NoMemory h p ν a cs r = p
