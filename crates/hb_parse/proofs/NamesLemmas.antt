-- The names after a file are those before it and the new ones of its commands.
use Rattle.std.proofs.Common.{◌≡◌, ℕ, ◌+◌, ◌≤◌, List, [], ◌∷◌, ◌++◌, length, refl, ap, ◌∙◌, subst, arith, length-append, inl, inr}
use Rattle.std.proofs.lemmas.Bool.{cases_lt}
use Rattle.std.proofs.lemmas.List.{map-append}
use Rattle.hb_raw.specs.declared.command.Command.{Command}
use Rattle.hb_raw.specs.Sentence.{Sentence}
use Rattle.hb_raw.specs.Views.{command, sentences}
use Rattle.hb_grammar.specs.declared.mark.Mark.{Mark}
use Rattle.hb_grammar.specs.Machine.{State, begin, done}
use Rattle.hb_reader.specs.Needs.{need}
use Rattle.hb_parse.specs.Numbers.{Extends, Counts}
use Rattle.hb_parse.specs.Turns.{Counted}
use Rattle.hb_parse.specs.Uses.{sentence_uses, uses}
use Rattle.hb_parse.proofs.Loads.{Alike, weight, Load, Loads, push_load}
use Rattle.hb_parse.proofs.LoadSteps.{step_loads}

-- what is read and what is under way have the new names, and no name that isn't held
pub record Named (old new : List (List ℕ)) (cs : List Sentence) (s : State) (i : ℕ) : Type 0 where
  pub under_way : ℕ
  pub load : Load i s under_way
  pub counts : Counts i old new (uses i cs + under_way)

none_alike : Alike 0 0
none_alike = record { forth = λ p. p; back = λ p. p }

pub named-none : (names : List (List ℕ)) (i : ℕ) → Named names names [] begin i
named-none names i = record { under_way = 0; load = none_alike; counts = (λ l. refl, λ l m. absurd (omega (arith, l, m))) }

longer : (old new : List (List ℕ)) → Extends old new → length old ≤ length new
longer old new (more, e) = omega (arith, ap length e, length-append old more)

counts_more : (i : ℕ) (old mid new : List (List ℕ)) (c d : ℕ) → Extends mid new → Counts i old mid c → Counts i mid new d → Counts i old new (c + d)
counts_more i old mid new c d k h g =
    let l = longer mid new k in (
      λ p. let a = h.0 (omega (arith, p, l)) in let b = g.0 p in omega (arith, a, b),
      λ p q. elim (cases_lt i (length mid)) [
        | inl r ↦ let a = h.1 p r in omega (arith, a)
        | inr r ↦ let b = g.1 r q in omega (arith, b)
      ],
    )

counts_alike : (i : ℕ) (old new : List (List ℕ)) (c a n : ℕ) → Alike a n → Counts i old new (c + n) → Counts i old new (c + a)
counts_alike i old new c a n h g = (
  λ p.
      let k = g.0 p in
      elim (cases_lt 0 a) [ inl r ↦ let q = h.forth r in absurd (omega (arith, k, q)) | inr r ↦ omega (arith, k, r) ],
  λ p q.
      let k = g.1 p q in
      elim (cases_lt 0 n) [ inl r ↦ let b = h.back r in omega (arith, b) | inr r ↦ omega (arith, k, r) ],
)

module _ (old mid new : List (List ℕ)) (cs : List Sentence) (s t : State) (m : Mark) (i : ℕ) where
  -- one token
  pub named-step : Extends mid new → Named old mid cs s i → Counted mid new s m t → Named old new cs t i
  named-step k h (w, e, c) = record {
    under_way = h.under_way + weight i (need s m) w;
    load = subst (λ o. Loads i o (h.under_way + weight i (need s m) w)) e (step_loads i s m w h.under_way h.load);
    counts = subst (λ x. Counts i old new x) (shifted (uses i cs) h.under_way (weight i (need s m) w))
        (counts_more i old mid new (uses i cs + h.under_way) (weight i (need s m) w) k h.counts (c i));
  }
    where
      shifted : (a b c : ℕ) → a + b + c ≡ a + (b + c)
      shifted a b c = omega arith

-- the end of a sentence
pub named-ended : (old new : List (List ℕ)) (cs : List Command) (c : Command) (t : State) (i : ℕ) → t ≡ done (command c)
    → Named old new (sentences cs) t i → Named old new (sentences (cs ++ (c ∷ []))) begin i
named-ended old new cs c t i e h =
    let l : Alike (sentence_uses i (command c)) h.under_way = subst (λ x. Load i x h.under_way) e h.load in
    let f : uses i (sentences (cs ++ (c ∷ []))) ≡ uses i (sentences cs) + sentence_uses i (command c) =
    ap (uses i) (map-append command cs (c ∷ [])) ∙ push_load i (sentence_uses i) (sentences cs) (command c) in
    record {
      under_way = 0;
      load = none_alike;
      counts = subst (λ x. Counts i old new x) (omega (arith, f)) (counts_alike i old new (uses i (sentences cs)) (sentence_uses i (command c)) h.under_way l h.counts);
    }

-- the end of the file
pub named-all : (old new : List (List ℕ)) (cs : List Sentence) (s : State) (i : ℕ) → s ≡ begin → Named old new cs s i → Counts i old new (uses i cs)
named-all old new cs s i e h =
    let l : Alike 0 h.under_way = subst (λ x. Load i x h.under_way) e h.load in
    subst (λ x. Counts i old new x) (zeros (uses i cs)) (counts_alike i old new (uses i cs) 0 h.under_way l h.counts)
  where
    zeros : (a : ℕ) → a + 0 ≡ a
    zeros a = omega arith
