-- A name that a token needs stands in the sentences of each file that begins with it.
use Rattle.std.proofs.Common.{◌≡◌, ℕ, ◌+◌, ◌<◌, zero, suc, List, [], ◌∷◌, ◌++◌, Option, Some, None, false, refl, sym, ap, ◌∙◌, subst, arith, inl, inr, eq-eqb}
use Rattle.hb_base.specs.declared.name_id.NameId.{NameId}
use Rattle.hb_raw.specs.Sentence.{Sentence}
use Rattle.hb_grammar.specs.declared.mark.Mark.{Mark}
use Rattle.hb_grammar.specs.Leaf.{Sign, Leaf}
use Rattle.hb_grammar.specs.Grammar.{IsFile}
use Rattle.hb_grammar.specs.Machine.{State, begin, done, step, read}
use Rattle.hb_grammar.specs.Places.{Seen, seen, Most, tokens}
use Rattle.hb_grammar.specs.Run.{Outcome, outcome, behind_leaf_of, finish, run}
use Rattle.hb_grammar.proofs.Unique.{IsMoving, run_step, file_run}
use Rattle.hb_grammar.proofs.Way.{Came}
use Rattle.std.proofs.lemmas.List.{append_assoc}
use Rattle.hb_base.specs.Names.{is_named}
use Rattle.hb_reader.specs.declared.need.Need.{Need}
use Rattle.hb_reader.specs.declared.need.Need.TheVariants.{Nothing, Whole, First, Both}
use Rattle.hb_reader.specs.Needs.{need}
use Rattle.hb_parse.specs.Marks.{first_part}
use Rattle.hb_parse.specs.Signs.{Numbering}
use Rattle.hb_parse.specs.Numbers.{Lacks, number_uses}
use Rattle.hb_parse.specs.Uses.{name_uses, sentence_uses, uses}
use Rattle.hb_parse.proofs.Loads.{Alike, weight, Load, Loads, push_load}
use Rattle.hb_parse.proofs.LoadSteps.{step_loads}

none_alike : Alike 0 0
none_alike = record { forth = λ p. p; back = λ p. p }

module _ (i : ℕ) where
  -- at the end of the tokens
  ended_uses : (cs ds : List Sentence) (vs : List Leaf) (s : State) (n : ℕ) → finish cs s ≡ Some (outcome vs ds) → Load i s n → 0 < uses i cs + n
      → 0 < uses i ds
  ended_uses cs ds vs begin n e l p =
      let f : cs ≡ ds = cc in
      let q : 0 < uses i cs = before (uses i cs) n (l.back) p in
      subst (λ x. 0 < uses i x) f q
    where
      before : (a n : ℕ) → (0 < n → 0 < 0) → 0 < a + n → 0 < a
      before a zero k p = omega (arith, p)
      before a (suc n) k p = absurd (omega (arith, k (omega arith)))
  ended_uses cs ds vs (done c) n e l p =
      let f : cs ++ (c ∷ []) ≡ ds = cc in
      let g = push_load i (sentence_uses i) cs c in
      subst (λ x. 0 < uses i x) f (before (uses i cs) n (sentence_uses i c) (uses i (cs ++ (c ∷ []))) l.back g p)
    where
      before : (a n b u : ℕ) → (0 < n → 0 < b) → u ≡ a + b → 0 < a + n → 0 < u
      before a zero b u k e p = omega (arith, p, e)
      before a (suc n) b u k e p = omega (arith, k (omega arith), e)
  ended_uses cs ds vs _ n e l p = absurd (cc)

  -- behind a token
  behind_uses : (leaf : Leaf) (cs ds : List Sentence) (vs : List Leaf) (ts : List Seen) (o : Option State) (n : ℕ)
      → behind_leaf_of leaf (run cs o ts) ≡ Some (outcome vs ds) → Loads i o n
      → ((t : State) (us : List Leaf) → run cs (Some t) ts ≡ Some (outcome us ds) → Load i t n → 0 < uses i ds) → 0 < uses i ds
  behind_uses leaf cs ds vs ts None n e l k = absurd (cc)
  behind_uses leaf cs ds vs ts (Some t) n e l k = let r = unbehind (run cs (Some t) ts) e in k t r.0 r.1 l
    where
      unbehind : (o : Option Outcome) → behind_leaf_of leaf o ≡ Some (outcome vs ds) → (us : List Leaf) × (o ≡ Some (outcome us ds))
      unbehind None e = absurd (cc)
      unbehind (Some (outcome us es)) e = let f : es ≡ ds = cc in (us, ap (λ x. Some (outcome us x)) f)

  moved_on : (a n k : ℕ) → 0 < a + n → 0 < a + (n + k)
  moved_on a n k p = omega (arith, p)

  pub run_uses : (ts : List Seen) (cs ds : List Sentence) (vs : List Leaf) (s : State) (n : ℕ) → run cs (Some s) ts ≡ Some (outcome vs ds) → Load i s n
      → 0 < uses i cs + n → 0 < uses i ds
  run_uses [] cs ds vs s n e l p = ended_uses cs ds vs s n e l p
  run_uses (seen m w ∷ ts) cs ds vs (done c) n e l p =
      let g : 0 < uses i (cs ++ (c ∷ [])) = ended_uses cs (cs ++ (c ∷ [])) [] (done c) n refl l p in
      behind_uses (read begin m w) (cs ++ (c ∷ [])) ds vs ts (step begin m w) 0 e (step_loads i begin m w 0 none_alike)
      (λ t us r k. run_uses ts (cs ++ (c ∷ [])) ds us t 0 r k (omega (arith, g)))
  run_uses (seen m w ∷ ts) cs ds vs s n e l p =
      behind_uses (read s m w) cs ds vs ts (step s m w) (n + weight i (need s m) w) (sym (run_step s cs m w ts tt) ∙ e) (step_loads i s m w n l)
      (λ t us r k. run_uses ts cs ds us t (n + weight i (need s m) w) r k (moved_on (uses i cs) n (weight i (need s m) w) p))

  -- what a token needs
  pub needed : {most : Most} {front : List Seen} {before : List Sentence} {s : State} (m : Mark) (w : Sign) (n : ℕ) → Came most front before s → IsMoving s
      → Load i s n → 0 < weight i (need s m) w → (ls : List Leaf) (cs : List Sentence) (more : List Seen)
      → tokens ls ≡ (front ++ (seen m w ∷ [])) ++ more → IsFile ls cs [] → 0 < uses i cs
  needed {front = front} {before = before} {s = s} m w n c moving l p ls cs more e h =
      let q = c.runs (seen m w ∷ more) ls cs
      (ap (λ x. run [] (Some begin) x) (sym (append_assoc front (seen m w ∷ []) more) ∙ sym e) ∙ file_run h cs refl) in
      behind_uses (read s m w) before cs q.0 more (step s m w) (n + weight i (need s m) w) (sym (run_step s before m w more moving) ∙ q.1)
      (step_loads i s m w n l)
      (λ t us r k. run_uses more before cs us t (n + weight i (need s m) w) r k (omega (arith, p)))

  -- what tokens that were read need
  pub needed_before : {most : Most} {front : List Seen} {before : List Sentence} {s : State} (n : ℕ) → Came most front before s
      → Load i s n → 0 < uses i before + n → (ls : List Leaf) (cs : List Sentence) (more : List Seen)
      → tokens ls ≡ front ++ more → IsFile ls cs [] → 0 < uses i cs
  needed_before {before = before} {s = s} n c l p ls cs more e h =
      let q = c.runs more ls cs (ap (λ x. run [] (Some begin) x) (sym e) ∙ file_run h cs refl) in
      run_uses more before cs q.0 s n q.1 l p

-- a text that is needed and not held is the whole, or the first part
own_use : (n : NameId) → name_uses n.0 n ≡ 1
own_use n = rw (eq-eqb n.0 n.0 refl) refl

pub lacked : (names : List (List ℕ)) (d : Need) (text : List ℕ) → Lacks names d text
    → (t : List ℕ) × (is_named names t ≡ false) × ((ν : Numbering) → 0 < number_uses (ν t).0 d (ν text) (ν (first_part text)))
lacked names Nothing text h = absurd h
lacked names Whole text h = (text, h, λ ν. omega (arith, own_use (ν text)))
lacked names First text h = (first_part text, h, λ ν. omega (arith, own_use (ν (first_part text))))
lacked names Both text (inl h) = (text, h, λ ν. omega (arith, own_use (ν text)))
lacked names Both text (inr h) = (first_part text, h, λ ν. omega (arith, own_use (ν (first_part text))))
