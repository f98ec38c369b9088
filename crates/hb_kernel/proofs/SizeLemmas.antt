-- The first term that is too large.
use Rattle.std.proofs.Common.{◌≡◌, ◌∙◌, ℕ, ◌+◌, ◌<◌, List, [], ◌∷◌, ◌++◌, length, get_or, subst, sym, refl, ap, arith}
use Rattle.std.specs.declared.alloc.AllocError.{AllocError}
use Rattle.std.proofs.lemmas.Slice.{first_rest}
use Rattle.std.specs.List.{between}
use Rattle.std.specs.Prelude.{Result, Ok, Err, IfOk, Option, Some, None, MatchOption}
use Rattle.hb_tree.specs.Tree.{Tree}
use Rattle.hb_term.specs.Meaning.{tree}
use Rattle.hb_term.specs.declared.term.Term.{Term}
use Rattle.hb_term.specs.declared.scoped.Scoped.{Scoped}
use Rattle.hb_calculus.specs.Declarations.{Decl, an_axiom, a_definition, a_record, terms_of, field_types}
use Rattle.hb_calculus.specs.Budget.{Budget, TooLarge}
use Rattle.hb_kernel.specs.Scoping.{AreFit, IsFirstTooLarge}
use Rattle.hb_kernel.specs.Sizes.{IsFirstLarge}

-- the first item of a list, and the others
pub split-first : {X : Type 0} (xs : List X) (x : X) → 0 < length xs → x ≡ get_or xs 0 x → xs ≡ x ∷ between 1 (length xs) xs
split-first xs x h e = first_rest xs x h ∙ ap (λ y. y ∷ between 1 (length xs) xs) (sym e)

pub no-item : {X : Type 0} (xs : List X) → length xs < 1 → xs ≡ []
no-item [] h = refl
no-item (x ∷ xs) h = absurd (let k : ⊥ = omega arith in k)

module _ (L : Budget) where
  pub first-large : (ts rest : List Tree) (t : Tree) (n : ℕ) (s : Scoped) → ts ≡ t ∷ rest → tree s.term ≡ t → s.depth ≡ n → TooLarge L t → IsFirstLarge L ts n s
  first-large ts rest t n s e k d h =
      record {
        before = [];
        behind = rest;
        stands = e ∙ ap (λ x. x ∷ rest) (sym k);
        under = d ∙ (let g : n ≡ n + 0 = omega arith in g);
        fit = tt;
        large = subst (λ x. TooLarge L x) (sym k) h;
      }

  later-one : (ts : List Tree) (t : Tree) (n m : ℕ) (s : Scoped) → m ≡ n + 1 → ¬ TooLarge L t → IsFirstLarge L ts m s → IsFirstLarge L (t ∷ ts) n s
  later-one ts t n m s e h f =
      record {
        before = t ∷ f.before;
        behind = f.behind;
        stands = ap (λ xs. t ∷ xs) f.stands;
        under = (let g = f.under in let k : s.depth ≡ n + length (t ∷ f.before) = omega arith in k);
        fit = (h, f.fit);
        large = f.large;
      }

  pub later-large : (us ts : List Tree) (t : Tree) (n m : ℕ) (r : Result (Option Scoped) AllocError) → us ≡ t ∷ ts → m ≡ n + 1 → ¬ TooLarge L t
      → IfOk r (λ o. MatchOption o (AreFit L ts) (IsFirstLarge L ts m)) → IfOk r (λ o. MatchOption o (AreFit L us) (IsFirstLarge L us n))
  later-large us ts t n m (Ok (Some s)) e k h f = subst (λ xs. IsFirstLarge L xs n s) (sym e) (later-one ts t n m s k h f)
  later-large us ts t n m (Ok None) e k h f = subst (λ xs. AreFit L xs) (sym e) (h, f)
  later-large us ts t n m (Err x) e k h f = tt

  -- the terms of a declaration
  pub axiom-large : (d : Decl) (n : ℕ) (t u : Tree) (r : Result (Option Scoped) AllocError) → d ≡ an_axiom n t → u ≡ t
      → IfOk r (λ o. MatchOption o (¬ TooLarge L u) (λ s. (tree s.term ≡ u) × (s.depth ≡ 0) × TooLarge L u))
      → IfOk r (λ o. MatchOption o (AreFit L (terms_of d)) (λ s. IsFirstTooLarge L d s.depth (tree s.term)))
  axiom-large d n t u (Ok (Some s)) e k h =
      subst (λ (x : Decl). IsFirstTooLarge L x s.depth (tree s.term)) (sym e)
      (record {
        before = [];
        behind = [];
        stands = ap (λ x. x ∷ []) (sym k ∙ sym h.0);
        under = h.1;
        fit = tt;
        large = subst (λ x. TooLarge L x) (sym h.0) h.2;
      })
  axiom-large d n t u (Ok None) e k h =
      subst (λ (x : Decl). AreFit L (terms_of x)) (sym e) (subst (λ x. (¬ TooLarge L x) × Unit {0}) k (h, tt))
  axiom-large d n t u (Err x) e k h = tt

  pub type-large : (d : Decl) (n : ℕ) (t b : Tree) (s : Scoped) → d ≡ a_definition n t b → tree s.term ≡ t → s.depth ≡ 0 → TooLarge L t → IsFirstTooLarge L d s.depth (tree s.term)
  type-large d n t b s e k z h =
      subst (λ (x : Decl). IsFirstTooLarge L x s.depth (tree s.term)) (sym e)
      (record {
        before = [];
        behind = b ∷ [];
        stands = ap (λ x. x ∷ b ∷ []) (sym k);
        under = z;
        fit = tt;
        large = subst (λ x. TooLarge L x) (sym k) h;
      })

  pub body-large : (d : Decl) (n : ℕ) (t b : Tree) (r : Result (Option Scoped) AllocError) → d ≡ a_definition n t b → ¬ TooLarge L t
      → IfOk r (λ o. MatchOption o (¬ TooLarge L b) (λ s. (tree s.term ≡ b) × (s.depth ≡ 0) × TooLarge L b))
      → IfOk r (λ o. MatchOption o (AreFit L (terms_of d)) (λ s. IsFirstTooLarge L d s.depth (tree s.term)))
  body-large d n t b (Ok (Some s)) e f h =
      subst (λ (x : Decl). IsFirstTooLarge L x s.depth (tree s.term)) (sym e)
      (record {
        before = t ∷ [];
        behind = [];
        stands = ap (λ x. t ∷ x ∷ []) (sym h.0);
        under = h.1;
        fit = (f, tt);
        large = subst (λ x. TooLarge L x) (sym h.0) h.2;
      })
  body-large d n t b (Ok None) e f h = subst (λ (x : Decl). AreFit L (terms_of x)) (sym e) (f, (h, tt))
  body-large d n t b (Err x) e f h = tt

  pub record-large : (d : Decl) (n m k : ℕ) (ps : List Tree) (fs : List (ℕ × Tree)) (r : Result (Option Scoped) AllocError) → d ≡ a_record n m ps k fs
      → IfOk r (λ o. MatchOption o (AreFit L (ps ++ field_types fs)) (IsFirstLarge L (ps ++ field_types fs) 0))
      → IfOk r (λ o. MatchOption o (AreFit L (terms_of d)) (λ s. IsFirstTooLarge L d s.depth (tree s.term)))
  record-large d n m k ps fs (Ok (Some s)) e h =
      subst (λ (x : Decl). IsFirstTooLarge L x s.depth (tree s.term)) (sym e)
      (record {
        before = h.before;
        behind = h.behind;
        stands = h.stands;
        under = (let g = h.under in let q : s.depth ≡ length h.before = omega arith in q);
        fit = h.fit;
        large = h.large;
      })
  record-large d n m k ps fs (Ok None) e h = subst (λ (x : Decl). AreFit L (terms_of x)) (sym e) h
  record-large d n m k ps fs (Err x) e h = tt

  pub closed-tree : (u : Term) (r : Result (Option Scoped) AllocError) → IfOk r (λ o. MatchOption o (¬ TooLarge L (tree u)) (λ s. (s.term ≡ u) × (s.depth ≡ 0) × TooLarge L (tree u)))
      → IfOk r (λ o. MatchOption o (¬ TooLarge L (tree u)) (λ s. (tree s.term ≡ tree u) × (s.depth ≡ 0) × TooLarge L (tree u)))
  closed-tree u (Ok (Some s)) h = (ap tree h.0, h.1, h.2)
  closed-tree u (Ok None) h = h
  closed-tree u (Err x) h = tt
