-- Steps that functions compute, and sequences of them.
use Rattle.std.proofs.Common.{◌≡◌, ◌∙◌, sym, refl, ap, subst, ℕ, zero, suc, List}
use Rattle.std.specs.Prelude.{Option, Some, None, option_and_then}
use Rattle.std.proofs.lemmas.Option.{none-some}
use Rattle.hb_tree.specs.Tree.{Tree}
use Rattle.hb_calculus.specs.Declarations.{Decl}
use Rattle.hb_calculus.specs.Step.{Step, here, in_domain, in_codomain, in_binder, in_body, in_function, in_argument, in_projected, Steps, done, more}
use Rattle.hb_calculus.specs.Contraction.{contract, next, head_step}
use Rattle.hb_calculus.specs.Sequence.{iterate, head_sequence, IsHeadForm}
use Rattle.hb_calculus.proofs.Options.{Some-injective, IsValue}
use Rattle.hb_calculus.proofs.Rules.{contract-rule, rule-contract}
use Rattle.hb_calculus.proofs.Leftmost.{Kept, leftmost-kept, leftmost-here, leftmost-domain, leftmost-codomain, leftmost-binder, leftmost-body, leftmost-function, leftmost-argument, leftmost-projected}
use Rattle.hb_calculus.proofs.Heads.{head-next}

steps-kept : (E : List Decl) → Kept (contract E) (Step E)
steps-kept E =
    record {
      by_rule = λ t u h. here (contract-rule E t u h);
      domain = λ a a' b s. in_domain s;
      codomain = λ a b b' s. in_codomain s;
      binder = λ a a' b s. in_binder s;
      body = λ a b b' s. in_body s;
      function = λ f f' a s. in_function s;
      argument = λ f a a' s. in_argument s;
      projected = λ r i t t' s. in_projected s;
    }

pub next-step : (E : List Decl) (t u : Tree) → next E t ≡ Some u → Step E t u
next-step E = leftmost-kept (contract E) (Step E) (steps-kept E)

pub step-next : {E : List Decl} {t u : Tree} → Step E t u → IsValue (next E t)
step-next {E} (here {t = t} {u = u} s) = leftmost-here (contract E) t (u, rule-contract E t u s)
step-next {E} (in_domain {a = a} {b = b} s) = leftmost-domain (contract E) a b (step-next s)
step-next {E} (in_codomain {a = a} {b = b} s) = leftmost-codomain (contract E) a b (step-next s)
step-next {E} (in_binder {a = a} {b = b} s) = leftmost-binder (contract E) a b (step-next s)
step-next {E} (in_body {a = a} {b = b} s) = leftmost-body (contract E) a b (step-next s)
step-next {E} (in_function {f = f} {a = a} s) = leftmost-function (contract E) f a (step-next s)
step-next {E} (in_argument {f = f} {a = a} s) = leftmost-argument (contract E) f a (step-next s)
step-next {E} (in_projected {r = r} {i = i} {t = t} s) = leftmost-projected (contract E) r i t (step-next s)

pub no-step : (E : List Decl) (t u : Tree) → next E t ≡ None → ¬ Step E t u
no-step E t u h s = let v = step-next s in none-some v.0 (sym h ∙ v.1)

-- rules taken several times
module _ {A : Type 0} (rule : A → Option A) where
  pub iterate-before : (n : ℕ) (x z : A) → iterate rule (suc n) x ≡ Some z → (y : A) × (iterate rule n x ≡ Some y) × (rule y ≡ Some z)
  iterate-before n x z h = go (iterate rule n x) refl h
    where
      go : (o : Option A) → iterate rule n x ≡ o → option_and_then rule o ≡ Some z → (y : A) × (iterate rule n x ≡ Some y) × (rule y ≡ Some z)
      go None e k = absurd (none-some z k)
      go (Some y) e k = (y, e, k)

  pub iterate-next : (n : ℕ) (x y z : A) → iterate rule n x ≡ Some y → rule y ≡ Some z → iterate rule (suc n) x ≡ Some z
  iterate-next n x y z h k = ap (λ o. option_and_then rule o) h ∙ k

  pub iterate-none : (n : ℕ) (x y : A) → iterate rule n x ≡ Some y → rule y ≡ None → iterate rule (suc n) x ≡ None
  iterate-none n x y h k = ap (λ o. option_and_then rule o) h ∙ k

-- all terms of a part of steps at the head are reached by steps
pub steps-append : {E : List Decl} {t u v : Tree} → Steps E t u → Steps E u v → Steps E t v
steps-append done r = r
steps-append (more s q) r = more s (steps-append q r)

pub head_sequence-steps : (E : List Decl) (n : ℕ) (t u : Tree) → head_sequence E t n ≡ Some u → Steps E t u
head_sequence-steps E zero t u h = subst (λ x. Steps E t x) (Some-injective t u h) done
head_sequence-steps E (suc n) t u h =
    let p = iterate-before (head_step E) n t u h in
    steps-append (head_sequence-steps E n t p.0 p.1) (more (next-step E p.0 u (head-next E p.0 u p.2)) done)

pub head_form-steps : (E : List Decl) (t u : Tree) → IsHeadForm E t u → Steps E t u
head_form-steps E t u h = head_sequence-steps E h.count t u h.at
