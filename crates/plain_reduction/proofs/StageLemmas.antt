-- Plain reductions within a budget.
use Rattle.std.proofs.Common.{◌≡◌, ◌≢◌, ◌∙◌, sym, refl, ap, subst, ℕ, suc, ◌+◌, List, [], inl, inr}
use Rattle.std.specs.Prelude.{Option, Some, None, option_map}
use Rattle.std.specs.Option.{option_or}
use Rattle.std.proofs.lemmas.Option.{none-some}
use Rattle.hb_tree.specs.Tree.{Tree}
use Rattle.hb_calculus.specs.Declarations.{Decl}
use Rattle.hb_calculus.specs.Budget.{Budget, TooLarge}
use Rattle.hb_calculus.specs.Contraction.{next, next_eta, head_step}
use Rattle.hb_calculus.specs.Sequence.{Stage, stepping, contracting, term_at, move, iterate, Exceeds, HeadExceeds, IsHeadForm, IsNormalForm}
use Rattle.hb_calculus.specs.Inference.{HeadIs}
use Rattle.hb_calculus.proofs.Sequences.{iterate-next}
use Rattle.hb_term.specs.Meaning.{tree}
use Rattle.hb_term.specs.declared.scoped.Scoped.{Scoped}
use Rattle.hb_reduce.specs.Answers.{IsHeadOf, IsNormalOf}
use Rattle.hb_reduce.specs.Progress.{SoFar, NormalIs}
use Rattle.hb_reduce.proofs.ProgressLemmas.{so-on}
use Rattle.hb_reduce.proofs.ProgressLemmas as placed
use Rattle.plain_reduction.specs.declared.stage.Phase.{Phase}
use Rattle.plain_reduction.specs.declared.stage.Phase.TheVariants.{Stepping, Contracting}
use Rattle.plain_reduction.specs.Plain.{stage}

-- where a choice gives nothing, neither of its parts does
neither : {A : Type 0} (p q : Option A) → option_or p q ≡ None → (p ≡ None) × (q ≡ None)
neither None q e = (refl, e)
neither (Some x) q e = absurd (none-some x (sym e))

unmapped : {A B : Type 0} (f : A → B) (o : Option A) → option_map f o ≡ None → o ≡ None
unmapped f None e = refl
unmapped f (Some x) e = absurd (none-some (f x) (sym e))

term-of : (p : Phase) (t : Tree) → term_at (stage p t) ≡ t
term-of Stepping t = refl
term-of Contracting t = refl

module _ (E : List Decl) (L : Budget) (t : Tree) where
  -- weak head forms
  abbrev HeadSoFar : ℕ → Tree → Type 0
  HeadSoFar n now = SoFar (head_step E) (λ x. x) L t n now

  pub head-large : (n : ℕ) (now : Tree) → HeadSoFar n now → TooLarge L now → HeadExceeds E L t
  head-large n now h large = inr (n, now, h.at, large)

  pub head-spent : (n : ℕ) (now u : Tree) → HeadSoFar n now → head_step E now ≡ Some u → n ≡ L.steps → HeadExceeds E L t
  head-spent n now u h e q =
      inl (u, ap (λ j. iterate (head_step E) (suc j) t) (sym q) ∙ iterate-next (head_step E) n t now u h.at e)

  pub head-ends : (n : ℕ) (now : Tree) → HeadSoFar n now → ¬ TooLarge L now → head_step E now ≡ None → HeadIs E L t now
  head-ends n now h small e =
      placed.head-ends E L t [] now now n
      (record { so_far = h; clear = tt; path = tt })
      small
      (record { whole = refl; none = e })

  -- normal forms
  abbrev StageSoFar : ℕ → Stage → Type 0
  StageSoFar n s = SoFar (move E) term_at L (stepping t) n s

  small-stage : (p : Phase) (now : Tree) → ¬ TooLarge L now → ¬ TooLarge L (term_at (stage p now))
  small-stage p now small x = small (subst (TooLarge L) (term-of p now) x)

  pub stage-large : (n : ℕ) (p : Phase) (now : Tree) → StageSoFar n (stage p now) → TooLarge L now → Exceeds E L t
  stage-large n p now h large = inr (n, now, ap (option_map term_at) h.at ∙ ap Some (term-of p now), large)

  pub stage-spent : (n : ℕ) (s z : Stage) → StageSoFar n s → move E s ≡ Some z → n ≡ L.steps → Exceeds E L t
  stage-spent n s z h e q = inl (
    term_at z,
    ap (option_map term_at)
        (ap (λ j. iterate (move E) (suc j) (stepping t)) (sym q) ∙ iterate-next (move E) n (stepping t) s z h.at e),
  )

  pub stage-on :
      (n k : ℕ) (p : Phase) (now : Tree) (z : Stage) → StageSoFar n (stage p now) → ¬ TooLarge L now → move E (stage p now) ≡ Some z → n ≢ L.steps
      → k ≡ n + 1 → StageSoFar k z
  stage-on n k p now z h small e d q = so-on (move E) term_at L (stepping t) n k (stage p now) z h (small-stage p now small) e d q

  pub stage-ends : (n : ℕ) (p : Phase) (now : Tree) → StageSoFar n (stage p now) → ¬ TooLarge L now → move E (stage p now) ≡ None → NormalIs E L t now
  stage-ends n Stepping now h small e =
      let none = neither (option_map stepping (next E now)) (option_map contracting (next_eta E now)) e in
      placed.stage-ends E L t [] [] now now n
      (placed.stage-turn E L t [] [] now now n
      (record { stage = stepping now; so_far = h; term = refl; phase = (now, refl); clear = tt })
      (record { whole = refl; top = refl; none = unmapped stepping (next E now) none.0 }))
      small
      (record { whole = refl; top = refl; none = unmapped contracting (next_eta E now) none.1 })
  stage-ends n Contracting now h small e =
      placed.stage-ends E L t [] [] now now n
      (record { stage = contracting now; so_far = h; term = refl; phase = refl; clear = tt })
      small
      (record { whole = refl; top = refl; none = unmapped contracting (next_eta E now) e })

-- answers in a scope
pub head-of : (E : List Decl) (L : Budget) (t u : Scoped) (now : Tree) → tree u.term ≡ now → u.depth ≡ t.depth → HeadIs E L (tree t.term) now → IsHeadOf E L t u
head-of E L t u now e d h = record { form = subst (IsHeadForm E (tree t.term)) (sym e) h.form; within = h.within; depth = d }

pub normal-of :
    (E : List Decl) (L : Budget) (t u : Scoped) (now : Tree) → tree u.term ≡ now → u.depth ≡ t.depth → NormalIs E L (tree t.term) now
    → IsNormalOf E L t u
normal-of E L t u now e d h = record { form = subst (IsNormalForm E (tree t.term)) (sym e) h.form; within = h.within; depth = d }
