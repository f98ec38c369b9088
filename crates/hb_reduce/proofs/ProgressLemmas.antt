-- Reductions within a budget.
use Rattle.std.proofs.Common.{◌≡◌, ◌≢◌, ◌∙◌, sym, refl, ap, subst, ℕ, suc, ◌+◌, ◌<◌, ◌≤◌, ◌⊎◌, inl, inr, ⊎_elim, eq-or-lt_of_le, List, [], ◌∷◌, arith}
use Rattle.std.proofs.Common.{true≢false}
use Rattle.std.specs.Prelude.{Option, Some, None, option_map, Bool, true, false}
use Rattle.std.specs.Option.{option_or}
use Rattle.std.proofs.lemmas.Option.{none-some}
use Rattle.std.proofs.lemmas.Bool.{cases_order}
use Rattle.hb_tree.specs.Tree.{Tree, app, proj, nodes}
use Rattle.hb_tree.specs.declared.leaves.RecId.{RecId}
use Rattle.hb_term.specs.Meaning.{tree}
use Rattle.hb_term.specs.declared.term.Term.{Term}
use Rattle.hb_term.specs.declared.term.Term.TheVariants.{Sort, Rel, Pi, Lam, App, Const, Proj, Hole}
use Rattle.hb_calculus.specs.Declarations.{Decl}
use Rattle.hb_calculus.specs.Budget.{Budget, TooLarge}
use Rattle.hb_calculus.specs.Contraction.{contract, leftmost, next_eta, eta_of, head_step}
use Rattle.hb_calculus.specs.Sequence.{Stage, stepping, contracting, term_at, move, iterate, Exceeds, HeadExceeds}
use Rattle.hb_calculus.specs.Inference.{HeadIs}
use Rattle.hb_calculus.proofs.Options.{Some-injective}
use Rattle.hb_calculus.proofs.Sequences.{iterate-next, iterate-none}
use Rattle.hb_calculus.proofs.Stages.{iterate-goes_on, mapped-value}
use Rattle.hb_reduce.specs.declared.former.Former.TheVariants.{Product, Function, Application}
use Rattle.hb_reduce.specs.declared.rule.Rule.{Rule}
use Rattle.hb_reduce.specs.declared.rule.Rule.TheVariants.{Step, Eta}
use Rattle.hb_reduce.specs.Frames.{Frame, left, right, under, wrap, plug, own_nodes}
use Rattle.hb_reduce.specs.Kinds.{asks, IsHeadPath, IsClearFor, neutral}
use Rattle.hb_reduce.specs.Rules.{rule_of, IsClear, At, IsFound, IsDone}
use Rattle.hb_reduce.specs.Progress.{SoFar, AtHead, IsPhase, AtStage, IsHeadFound, IsHeadDone, NormalIs}
use Rattle.hb_reduce.proofs.Plugs.{found-leftmost, nodes_wrap}
use Rattle.hb_reduce.proofs.KindLemmas.{found-neutral}

module _ {A : Type 0} (rule : A → Option A) (term : A → Tree) (L : Budget) (start : A) where
  pub so-start : SoFar rule term L start 0 start
  so-start = record { at = refl; small = λ m z l. absurd (let k : ⊥ = omega arith in k); within = omega arith }

  pub so-on :
      (n k : ℕ) (s z : A) → SoFar rule term L start n s → ¬ TooLarge L (term s) → rule s ≡ Some z → n ≢ L.steps → k ≡ n + 1
      → SoFar rule term L start k z
  so-on n k s z h small e d q =
      let w = h.within in
      subst (λ j. SoFar rule term L start j z) (let p : suc n ≡ k = omega arith in p)
      (record {
        at = iterate-next rule n start s z h.at e;
        small = λ m y l g. fits m y (eq-or-lt_of_le (let p : m ≤ n = omega arith in p)) g;
        within = omega arith;
      })
    where
      fits : (m : ℕ) (y : A) → (m ≡ n) ⊎ (m < n) → iterate rule m start ≡ Some y → ¬ TooLarge L (term y)
      fits m y (inl p) g =
          let same : y ≡ s = Some-injective y s (sym g ∙ ap (λ j. iterate rule j start) p ∙ h.at) in
          λ x. small (subst (λ v. TooLarge L (term v)) same x)
      fits m y (inr l) g = h.small m y l g

  -- the reduction passes the budget
  abbrev IterationPasses : Type 0
  IterationPasses =
      ((z : A) × (iterate rule (suc L.steps) start ≡ Some z))
      ⊎ ((n : ℕ) × (z : A) × (iterate rule n start ≡ Some z) × TooLarge L (term z))

  so-steps : (n : ℕ) (s z : A) → SoFar rule term L start n s → rule s ≡ Some z → n ≡ L.steps → iterate rule (suc L.steps) start ≡ Some z
  so-steps n s z h e q = ap (λ j. iterate rule (suc j) start) (sym q) ∙ iterate-next rule n start s z h.at e

  so-not : (n : ℕ) (s : A) → SoFar rule term L start n s → ¬ TooLarge L (term s) → rule s ≡ None → ¬ IterationPasses
  so-not n s h small e p =
      ⊎_elim
      (λ q. let w = h.within in ends (suc L.steps) q.0 (omega arith) q.1)
      (λ q. at q.0 q.1 (cases_order q.0 n) q.2 q.3)
      p
    where
      ends : (m : ℕ) (z : A) → n < m → iterate rule m start ≡ Some z → ⊥
      ends m z l g =
          let y = iterate-goes_on rule m n start z l g in
          let same : s ≡ y.0 = Some-injective s y.0 (sym h.at ∙ y.1) in
          none-some y.2.0 (sym e ∙ ap rule same ∙ y.2.1)

      at : (m : ℕ) (z : A) → (m ≡ n) ⊎ ((m < n) ⊎ (n < m)) → iterate rule m start ≡ Some z → TooLarge L (term z) → ⊥
      at m z (inl q) g large =
          let same : z ≡ s = Some-injective z s (sym g ∙ ap (λ j. iterate rule j start) q ∙ h.at) in
          small (subst (λ v. TooLarge L (term v)) same large)
      at m z (inr (inl l)) g large = h.small m z l g large
      at m z (inr (inr l)) g large = ends m z l g

-- the head
head-wrap :
    (E : List Decl) (f : Frame) (fs : List Frame) (t u : Tree) → asks f ≡ true → IsClear (contract E) (f ∷ fs) t → head_step E t ≡ Some u
    → head_step E (wrap f t) ≡ Some (wrap f u)
head-wrap E (left Application b) fs t u p h e =
    ap (λ o. option_or o (option_map (λ x. app x b) (head_step E t))) h.0 ∙ ap (option_map (λ x. app x b)) e
head-wrap E (left Product b) fs t u p h e = absurd (true≢false (sym p))
head-wrap E (left Function b) fs t u p h e = absurd (true≢false (sym p))
head-wrap E (right c a) fs t u p h e = absurd (true≢false (sym p))
head-wrap E (under r i) fs t u p h e =
    ap (λ o. option_or o (option_map (λ x. proj r i x) (head_step E t))) h.0 ∙ ap (option_map (λ x. proj r i x)) e

head-wrap_none :
    (E : List Decl) (f : Frame) (fs : List Frame) (t : Tree) → asks f ≡ true → IsClear (contract E) (f ∷ fs) t → head_step E t ≡ None
    → head_step E (wrap f t) ≡ None
head-wrap_none E (left Application b) fs t p h e =
    ap (λ o. option_or o (option_map (λ x. app x b) (head_step E t))) h.0 ∙ ap (option_map (λ x. app x b)) e
head-wrap_none E (left Product b) fs t p h e = absurd (true≢false (sym p))
head-wrap_none E (left Function b) fs t p h e = absurd (true≢false (sym p))
head-wrap_none E (right c a) fs t p h e = absurd (true≢false (sym p))
head-wrap_none E (under r i) fs t p h e =
    ap (λ o. option_or o (option_map (λ x. proj r i x) (head_step E t))) h.0 ∙ ap (option_map (λ x. proj r i x)) e

clear-up : (rule : Tree → Option Tree) (f : Frame) (fs : List Frame) (t : Tree) → IsClear rule (f ∷ fs) t → IsClear rule fs (wrap f t)
clear-up rule (left c b) fs t h = h.1
clear-up rule (right c a) fs t h = h.2
clear-up rule (under r i) fs t h = h.1

pub head-plug :
    (E : List Decl) (fs : List Frame) (t u : Tree) → IsHeadPath fs → IsClear (contract E) fs t → head_step E t ≡ Some u
    → head_step E (plug fs t) ≡ Some (plug fs u)
head-plug E [] t u p h e = e
head-plug E (f ∷ fs) t u p h e =
    head-plug E fs (wrap f t) (wrap f u) p.1 (clear-up (contract E) f fs t h) (head-wrap E f fs t u p.0 h e)

pub head-plug_none :
    (E : List Decl) (fs : List Frame) (t : Tree) → IsHeadPath fs → IsClear (contract E) fs t → head_step E t ≡ None → head_step E (plug fs t) ≡ None
head-plug_none E [] t p h e = e
head-plug_none E (f ∷ fs) t p h e =
    head-plug_none E fs (wrap f t) p.1 (clear-up (contract E) f fs t h) (head-wrap_none E f fs t p.0 h e)

contract-head : (E : List Decl) (t u : Tree) → contract E t ≡ Some u → head_step E t ≡ Some u
contract-head E (app f a) u e = ap (λ o. option_or o (option_map (λ x. app x a) (head_step E f))) e
contract-head E (proj r i t) u e = ap (λ o. option_or o (option_map (λ x. proj r i x) (head_step E t))) e
contract-head E t u e = e

head-found : (E : List Decl) (w : Tree) (fs : List Frame) (u : Tree) → IsHeadFound E w fs u → head_step E w ≡ Some (plug fs u)
head-found E w fs u h =
    let f = h.found in
    ap (head_step E) f.at.whole ∙ head-plug E fs f.part u h.path f.at.clear (contract-head E f.part u f.made)

-- one former nearer to the head
clear-down : (E : List Decl) (f : Frame) (fs : List Frame) (t : Tree) → asks f ≡ true → contract E (wrap f t) ≡ None → IsClear (contract E) fs (wrap f t) → IsClear (contract E) (f ∷ fs) t
clear-down E (left c b) fs t p e h = (e, h)
clear-down E (right c a) fs t p e h = absurd (true≢false (sym p))
clear-down E (under r i) fs t p e h = (e, h)

pub at-down :
    (E : List Decl) (w : Tree) (fs gs : List Frame) (f : Frame) (t u : Tree) → At (contract E) w fs t → contract E t ≡ None → t ≡ wrap f u
    → asks f ≡ true → gs ≡ f ∷ fs → At (contract E) w gs u
at-down E w fs gs f t u h e q p g =
    subst (λ xs. At (contract E) w xs u) (sym g)
    (record {
      whole = h.whole ∙ ap (plug fs) q;
      clear = clear-down E f fs u p (ap (contract E) (sym q) ∙ e) (subst (λ x. IsClear (contract E) fs x) q h.clear);
    })

pub head-done :
    (E : List Decl) (w : Tree) (fs : List Frame) (t u : Tree) → At (contract E) w fs t → IsHeadPath fs → contract E t ≡ None
    → head_step E t ≡ contract E t → u ≡ plug fs t → IsHeadDone E w u
head-done E w fs t u h p e k q =
    record {
      whole = h.whole ∙ sym q;
      none = ap (head_step E) q ∙ head-plug_none E fs t p h.clear (k ∙ e);
    }

-- the loop of the weak head form
module _ (E : List Decl) (L : Budget) (t : Tree) where
  pub head-start : AtHead E L t [] t 0
  head-start = record { so_far = so-start (head_step E) (λ x. x) L t; clear = tt; path = tt }

  pub head-large : (fs : List Frame) (now : Tree) (n : ℕ) → AtHead E L t fs now n → TooLarge L (plug fs now) → HeadExceeds E L t
  head-large fs now n h large = inr (n, plug fs now, h.so_far.at, large)

  pub head-spent :
      (fs gs : List Frame) (now u : Tree) (n : ℕ) → AtHead E L t fs now n → IsHeadFound E (plug fs now) gs u → n ≡ L.steps → HeadExceeds E L t
  head-spent fs gs now u n h f q =
      inl (plug gs u, so-steps (head_step E) (λ x. x) L t n (plug fs now) (plug gs u) h.so_far (head-found E _ gs u f) q)

  pub head-ends :
      (fs : List Frame) (now u : Tree) (n : ℕ) → AtHead E L t fs now n → ¬ TooLarge L (plug fs now) → IsHeadDone E (plug fs now) u → HeadIs E L t u
  head-ends fs now u n h small d =
      let at = h.so_far.at ∙ ap Some d.whole in
      record {
        form = record { count = n; at = at; no_more = iterate-none (head_step E) n t u at d.none };
        within = so-not (head_step E) (λ x. x) L t n (plug fs now) h.so_far small (ap (head_step E) d.whole ∙ d.none);
      }

  pub head-on :
      (fs gs hs : List Frame) (now u v : Tree) (n k : ℕ) → AtHead E L t fs now n → ¬ TooLarge L (plug fs now) → IsHeadFound E (plug fs now) gs u
      → At (contract E) (plug gs u) hs v → IsHeadPath hs → n ≢ L.steps → k ≡ n + 1 → AtHead E L t hs v k
  head-on fs gs hs now u v n k h small f a p d q =
      record {
        so_far =
            subst (λ x. SoFar (head_step E) (λ y. y) L t k x) a.whole
            (so-on (head_step E) (λ x. x) L t n k (plug fs now) (plug gs u) h.so_far small (head-found E _ gs u f) d q);
        clear = a.clear;
        path = p;
      }

-- what a head step leaves at the place
pub head-neutral : (E : List Decl) (w : Tree) (gs : List Frame) (u : Tree) → IsHeadFound E w gs u → IsClearFor E gs neutral
head-neutral E w gs u h = found-neutral E gs h.found.part u h.found.at.clear h.found.made

-- the loop of the normal form
stage-stepping : (rule : Rule) (E : List Decl) (s z : Stage) → IsPhase rule E s → (w : Tree) (x : Tree) → term_at s ≡ w → leftmost (rule_of rule E) w ≡ Some x
    → (y : Stage) × (move E s ≡ Some y) × (term_at y ≡ x) × IsPhase rule E y
stage-stepping Step E s z p w x e h = (
  stepping x,
  ap (move E) p.1
      ∙ ap (λ v. move E (stepping v)) (sym (ap term_at p.1) ∙ e)
      ∙ ap (λ o. option_or (option_map stepping o) (option_map contracting (next_eta E w))) h,
  refl,
  (x, refl),
)
stage-stepping Eta E s z p w x e h =
    (contracting x, p ∙ ap (λ v. option_map contracting (next_eta E v)) e ∙ ap (option_map contracting) h, refl, refl)

module _ (E : List Decl) (L : Budget) (t : Tree) where
  pub stage-start : AtStage E L t Step [] t 0
  stage-start =
      record {
        stage = stepping t;
        so_far = so-start (move E) term_at L (stepping t);
        term = refl;
        phase = (t, refl);
        clear = tt;
      }

  pub stage-large : (rule : Rule) (fs : List Frame) (now : Tree) (n : ℕ) → AtStage E L t rule fs now n → TooLarge L (plug fs now) → Exceeds E L t
  stage-large rule fs now n h large = inr (n, plug fs now, ap (option_map term_at) h.so_far.at ∙ ap Some h.term, large)

  small-term : (rule : Rule) (fs : List Frame) (now : Tree) (n : ℕ) (h : AtStage E L t rule fs now n) → ¬ TooLarge L (plug fs now) → ¬ TooLarge L (term_at h.stage)
  small-term rule fs now n h small x = small (subst (λ v. TooLarge L v) h.term x)

  stage-next :
      (rule : Rule) (fs gs : List Frame) (now u : Tree) (n : ℕ) (h : AtStage E L t rule fs now n) → IsFound (rule_of rule E) (plug fs now) gs u
      → (y : Stage) × (move E h.stage ≡ Some y) × (term_at y ≡ plug gs u) × IsPhase rule E y
  stage-next rule fs gs now u n h f =
      stage-stepping rule E h.stage h.stage h.phase (plug fs now) (plug gs u) h.term (found-leftmost (rule_of rule E) (plug fs now) gs u f)

  pub stage-spent :
      (rule : Rule) (fs gs : List Frame) (now u : Tree) (n : ℕ) → AtStage E L t rule fs now n → IsFound (rule_of rule E) (plug fs now) gs u
      → n ≡ L.steps → Exceeds E L t
  stage-spent rule fs gs now u n h f q =
      let y = stage-next rule fs gs now u n h f in
      inl (term_at y.0, ap (option_map term_at) (so-steps (move E) term_at L (stepping t) n h.stage y.0 h.so_far y.1 q))

  pub stage-on :
      (rule : Rule) (fs gs hs : List Frame) (now u v : Tree) (n k : ℕ) → AtStage E L t rule fs now n → ¬ TooLarge L (plug fs now)
      → IsFound (rule_of rule E) (plug fs now) gs u → At (rule_of rule E) (plug gs u) hs v → n ≢ L.steps → k ≡ n + 1 → AtStage E L t rule hs v k
  stage-on rule fs gs hs now u v n k h small f a d q =
      let y = stage-next rule fs gs now u n h f in
      record {
        stage = y.0;
        so_far = so-on (move E) term_at L (stepping t) n k h.stage y.0 h.so_far (small-term rule fs now n h small) y.1 d q;
        term = y.2 ∙ a.whole;
        phase = y.3;
        clear = a.clear;
      }

  -- the first phase ends, and the second begins
  pub stage-turn :
      (fs gs : List Frame) (now u : Tree) (n : ℕ) → AtStage E L t Step fs now n → IsDone (contract E) (plug fs now) gs u → AtStage E L t Eta gs u n
  stage-turn fs gs now u n h d =
      let is : term_at h.stage ≡ u = h.term ∙ d.whole in
      let first : h.stage ≡ stepping u = h.phase.1 ∙ ap stepping (sym (ap term_at h.phase.1) ∙ is) in
      let phase : move E h.stage ≡ option_map contracting (next_eta E (term_at h.stage)) =
      ap (move E) first
      ∙ ap (λ o. option_or (option_map stepping o) (option_map contracting (next_eta E u))) d.none
      ∙ ap (λ v. option_map contracting (next_eta E v)) (sym is) in
      record {
        stage = h.stage;
        so_far = h.so_far;
        term = is ∙ sym (ap (λ xs. plug xs u) d.top);
        phase = phase;
        clear = subst (λ xs. IsClear (eta_of E) xs u) (sym d.top) tt;
      }

  pub stage-ends :
      (fs gs : List Frame) (now u : Tree) (n : ℕ) → AtStage E L t Eta fs now n → ¬ TooLarge L (plug fs now) → IsDone (eta_of E) (plug fs now) gs u
      → NormalIs E L t u
  stage-ends fs gs now u n h small d =
      let is : term_at h.stage ≡ u = h.term ∙ d.whole in
      let none : move E h.stage ≡ None = h.phase ∙ ap (λ v. option_map contracting (next_eta E v)) is ∙ ap (option_map contracting) d.none in
      record {
        form =
            record {
              count = n;
              at = ap (option_map term_at) h.so_far.at ∙ ap Some is;
              no_more = ap (option_map term_at) (iterate-none (move E) n (stepping t) h.stage h.so_far.at none);
            };
        within = λ x. so-not (move E) term_at L (stepping t) n h.stage h.so_far (small-term Eta fs now n h small) none (passes x);
      }
    where
      passes : Exceeds E L t → IterationPasses (move E) term_at L (stepping t)
      passes x =
          ⊎_elim
          (λ q. let y = mapped-value term_at _ q.0 q.1 in inl (y.0, y.1))
          (λ q. let y = mapped-value term_at _ q.1 q.2 in inr (q.0, y.0, y.1, subst (λ v. TooLarge L v) y.2 q.3))
          x

abbrev is_step : Rule → Bool
is_step Step = true
is_step Eta = false

eta-step : Eta ≡ Step → ⊥
eta-step p = true≢false (sym (ap is_step p))

pub stage-neutral : (E : List Decl) (rule : Rule) (w : Tree) (gs : List Frame) (u : Tree) → IsFound (rule_of rule E) w gs u → rule ≡ Step → IsClearFor E gs neutral
stage-neutral E Step w gs u f e = found-neutral E gs f.part u f.at.clear f.made
stage-neutral E Eta w gs u f e = absurd (eta-step e)

-- a term under a former is smaller
pub smaller-down : (t u : Tree) (f : Frame) → t ≡ wrap f u → nodes u < nodes t
smaller-down t u f e =
    let n : nodes t ≡ nodes u + own_nodes f = ap nodes e ∙ nodes_wrap f u in
    let o = own-some f in
    omega arith
  where
    own-some : (g : Frame) → 0 < own_nodes g
    own-some (left c b) = omega arith
    own-some (right c a) = omega arith
    own-some (under r i) = omega arith

-- a term that is neither an application nor a projection is its own head
pub own-head :
    (t : Term) (w : Tree) → tree t ≡ w → ((f a : Tree) → t ≢ App f a) → ((r : RecId) (i : ℕ) (u : Tree) → t ≢ Proj r i u)
    → (E : List Decl) → head_step E w ≡ contract E w
own-head t w e p q E = subst (λ x. head_step E x ≡ contract E x) e (go t p q)
  where
    go : (t : Term) → ((f a : Tree) → t ≢ App f a) → ((r : RecId) (i : ℕ) (u : Tree) → t ≢ Proj r i u) → head_step E (tree t) ≡ contract E (tree t)
    go (App f a) p q = absurd (p f a refl)
    go (Proj r i u) p q = absurd (q r i u refl)
    go (Sort s) p q = refl
    go (Rel v) p q = refl
    go (Pi a b) p q = refl
    go (Lam a b) p q = refl
    go (Const c) p q = refl
    go (Hole h) p q = refl
