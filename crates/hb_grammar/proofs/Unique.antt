-- A file of the grammar is what the reader reads from its tokens.
use Rattle.std.proofs.Common.{◌≡◌, List, [], ◌∷◌, ◌++◌, Some, refl, ap, ◌∙◌}
use Rattle.hb_raw.specs.Sentence.{Sentence}
use Rattle.hb_grammar.specs.declared.mark.Mark.{Mark}
use Rattle.hb_grammar.specs.Leaf.{Sign, Leaf, leaf, late}
use Rattle.hb_grammar.specs.Grammar.{IsFile, file_none, file_more}
use Rattle.hb_grammar.specs.Machine.{State, begin, done, step, read}
use Rattle.hb_grammar.specs.Places.{Seen, seen, token, tokens, OneReading}
use Rattle.hb_grammar.specs.Run.{outcome, behind_leaf_of, run}
use Rattle.hb_grammar.proofs.Leads.{Leads, stay, move, mark_at, sign_at}
use Rattle.hb_grammar.proofs.Sentences.{sentence_lead}

abbrev pub IsMoving : State → Type 0
IsMoving (done c) = ⊥
IsMoving _ = Unit {0}

pub moves : (s : State) (m : Mark) (w : Sign) {t : State} → step s m w ≡ Some t → IsMoving s
moves (done c) m w e = absurd (cc)
moves _ m w e = tt

pub run_step : (s : State) (cs : List Sentence) (m : Mark) (w : Sign) (ts : List Seen) → IsMoving s
    → run cs (Some s) (seen m w ∷ ts) ≡ behind_leaf_of (read s m w) (run cs (step s m w) ts)
run_step (done c) cs m w ts p = absurd p
run_step _ cs m w ts p = refl

token_seen : (l : Leaf) → token l ≡ seen (mark_at l) (sign_at l)
token_seen (leaf m w d n) = refl
token_seen (late m w d n) = refl

pub leads_run : {s t : State} {ts us : List Leaf} → Leads s ts t us → (cs ds : List Sentence)
    → run cs (Some t) (tokens us) ≡ Some (outcome us ds) → run cs (Some s) (tokens ts) ≡ Some (outcome ts ds)
leads_run stay cs ds r = r
leads_run {s = s} (move {l = l} {ts = ts} e f h) cs ds r =
    let i = leads_run h cs ds r in
    ap (λ x. run cs (Some s) (x ∷ tokens ts)) (token_seen l)
    ∙ (run_step s cs (mark_at l) (sign_at l) (tokens ts) (moves s (mark_at l) (sign_at l) e)
    ∙ (ap (λ x. behind_leaf_of x (run cs (step s (mark_at l) (sign_at l)) (tokens ts))) f
    ∙ (ap (λ x. behind_leaf_of l (run cs x (tokens ts))) e ∙ ap (λ x. behind_leaf_of l x) i)))

pub done_run : (cs : List Sentence) (c : Sentence) (ts : List Seen) → run cs (Some (done c)) ts ≡ run (cs ++ (c ∷ [])) (Some begin) ts
done_run cs c [] = refl
done_run cs c (seen m w ∷ ts) = refl

pub file_run : {ts rest : List Leaf} {cs : List Sentence} → IsFile ts cs rest → (ds : List Sentence)
    → run cs (Some begin) (tokens rest) ≡ Some (outcome rest ds) → run [] (Some begin) (tokens ts) ≡ Some (outcome ts ds)
file_run file_none ds r = r
file_run {rest = rest} (file_more {cs = cs} {c = c} h i) ds r =
    file_run h ds (leads_run (sentence_lead i) cs ds (done_run cs c (tokens rest) ∙ r))

pub one_reading : OneReading
one_reading ls ms cs ds h i e =
    let p = file_run h cs refl in
    let q = file_run i ds refl in
    let r = ap (λ x. run [] (Some begin) x) e in
    (cc, cc)
