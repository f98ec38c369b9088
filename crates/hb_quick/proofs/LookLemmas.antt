-- Terms that are convertible by their parts, by their steps, or by eta.
use Rattle.std.proofs.Common.{◌≡◌, ◌∙◌, sym, ap, subst, List, [], ◌∷◌, ◌++◌, IsTrue, append_assoc, append-nil, arith}
use Rattle.std.proofs.Common.{refl, true≢false, eqb-true, ℕ, zero, suc, ◌+◌, length, length-append}
use Rattle.std.specs.Prelude.{Bool, true, false, not, ◌==◌, Some}
use Rattle.hb_tree.specs.Tree.{Tree, pi, lam, app, proj, rel, lift, apply, head_of, args_of}
use Rattle.hb_tree.specs.declared.leaves.RecId.{RecId}
use Rattle.hb_calculus.specs.Declarations.{Decl}
use Rattle.hb_calculus.specs.Telescopes.{maker, projections}
use Rattle.hb_calculus.specs.Conversion.{Convertible, same, back, chain, by_step, by_eta, of_pi, of_lam, of_app, of_proj, eta, record_eta}
use Rattle.hb_calculus.specs.Contraction.{head_step}
use Rattle.hb_calculus.proofs.Sequences.{next-step}
use Rattle.hb_calculus.proofs.Heads.{head-next}
use Rattle.hb_calculus.proofs.Spines.{apply-append, apply-args}
use Rattle.hb_quick.specs.Looks.{IsFullMaker, AreProjections, no_more, one_more, AreReached}

pub head-convertible : (E : List Decl) (t u : Tree) → head_step E t ≡ Some u → Convertible E t u
head-convertible E t u h = by_step (next-step E t u (head-next E t u h))

along : (E : List Decl) (a b x y : Tree) → x ≡ a → y ≡ b → Convertible E x y → Convertible E a b
along E a b x y p q h = subst (λ z. Convertible E z b) p (subst (λ z. Convertible E x z) q h)

pub by-heads : (E : List Decl) (a b x y : Tree) → Convertible E a x → Convertible E b y → Convertible E x y → Convertible E a b
by-heads E a b x y h g k = chain h (chain k (back g))

pub pi-parts : (E : List Decl) (a b p q r s : Tree) → pi p q ≡ a → pi r s ≡ b → Convertible E p r → Convertible E q s → Convertible E a b
pi-parts E a b p q r s e f h g = along E a b _ _ e f (of_pi h g)

pub lam-parts : (E : List Decl) (a b p q r s : Tree) → lam p q ≡ a → lam r s ≡ b → Convertible E p r → Convertible E q s → Convertible E a b
lam-parts E a b p q r s e f h g = along E a b _ _ e f (of_lam h g)

pub app-parts : (E : List Decl) (a b p q r s : Tree) → app p q ≡ a → app r s ≡ b → Convertible E p r → Convertible E q s → Convertible E a b
app-parts E a b p q r s e f h g = along E a b _ _ e f (of_app h g)

not-false : (b : Bool) → false ≡ not b → b ≡ true
not-false true e = refl
not-false false e = absurd (true≢false (sym e))

pub proj-parts :
    (E : List Decl) (a b t u : Tree) (r s : RecId) (i j : ℕ) → proj r i t ≡ a → proj s j u ≡ b → false ≡ not (r.0 == s.0) → i ≡ j
    → Convertible E t u → Convertible E a b
proj-parts E a b t u r s i j e f n q h =
    let same_record : r.0 ≡ s.0 = eqb-true r.0 s.0 (not-false (r.0 == s.0) n) in
    along E a b (proj r i t) (proj r i u) e ((λ k. proj (record { 0 = same_record k }) (q k) u) ∙ f) (of_proj h)

pub same-parts : (E : List Decl) (a b : Tree) → a ≡ b → Convertible E a b
same-parts E a b e = subst (λ x. Convertible E a x) e same

-- a function whose body is b applied to its variable
pub function-eta :
    (E : List Decl) (a b p q applied : Tree) → lam p q ≡ a → applied ≡ app (lift b 1 0) (rel 0) → Convertible E q applied
    → Convertible E a b
function-eta E a b p q applied e f h =
    subst (λ x. Convertible E x b) e (chain (of_lam same (subst (λ y. Convertible E q y) f h)) (by_eta (eta refl)))

pub one-projection :
    (E : List Decl) (r : RecId) (u : Tree) (n m : ℕ) (t f a p : Tree) → n ≡ m + 1 → t ≡ app f a → p ≡ proj r m u → Convertible E a p
    → AreProjections E r u m f → AreProjections E r u n t
one-projection E r u n m t f a p e k q h more = one_more e k (subst (λ x. Convertible E a x) q h) more

-- terms that are reached by two ways in turn
pub go-on :
    (E : List Decl) (a b x y : Tree) (p : Tree × Tree) → AreReached E a b (x, y) → AreReached E x y p → AreReached E a b p
go-on E a b x y p h g = record { first = chain h.first g.first; second = chain h.second g.second }

-- the projections with the last one at the end
projections-last : (r : RecId) (i n : ℕ) (u : Tree) → projections r i (suc n) u ≡ projections r i n u ++ proj r (i + n) u ∷ []
projections-last r i zero u = let e : i ≡ i + 0 = omega arith in ap (λ k. proj r k u ∷ []) e
projections-last r i (suc n) u =
    let e : (i + 1) + n ≡ i + suc n = omega arith in
    ap (λ xs. proj r i u ∷ xs) (projections-last r (i + 1) n u ∙ ap (λ k. projections r (i + 1) n u ++ proj r k u ∷ []) e)

projections-end : (r : RecId) (n m : ℕ) (u : Tree) → n ≡ m + 1 → projections r 0 m u ++ proj r m u ∷ [] ≡ projections r 0 n u
projections-end r n m u e =
    let f : m ≡ 0 + m = omega arith in
    let g : suc m ≡ n = omega (arith, e) in
    ap (λ k. projections r 0 m u ++ proj r k u ∷ []) f
    ∙ sym (projections-last r 0 m u)
    ∙ ap (λ k. projections r 0 k u) g

-- a term whose last arguments are projections is convertible with its head applied to the others and to these
pub record WithProjections (E : List Decl) (r : RecId) (u : Tree) (n : ℕ) (t : Tree) : Type 0 where
  pub others : List Tree
  pub count : length (args_of t) ≡ length others + n
  pub converts : Convertible E t (apply (head_of t) (others ++ projections r 0 n u))

with-projections : (E : List Decl) (r : RecId) (u : Tree) (n : ℕ) (t : Tree) → AreProjections E r u n t → WithProjections E r u n t
with-projections E r u n t (no_more e) =
    record {
      others = args_of t;
      count = omega (arith, e);
      converts = same-parts E t _ (sym (apply-args t) ∙ ap (apply (head_of t)) (sym (append-nil (args_of t)) ∙ (λ i. args_of t ++ projections r 0 (sym e i) u)));
    }
with-projections E r u n t (one_more {m = m} {f = f} {a = a} e k h more) =
    let w = with-projections E r u m f more in
    let l : length (args_of f ++ a ∷ []) ≡ length (args_of f) + 1 = length-append (args_of f) (a ∷ []) in
    let c = w.count in
    let many : length (args_of t) ≡ length w.others + n = ap (λ x. length (args_of x)) k ∙ omega (arith, e) in
    let list : (w.others ++ projections r 0 m u) ++ proj r m u ∷ [] ≡ w.others ++ projections r 0 n u =
    append_assoc w.others (projections r 0 m u) (proj r m u ∷ [])
    ∙ ap (λ xs. w.others ++ xs) (projections-end r n m u e) in
    record {
      others = w.others;
      count = many;
      converts = chain (same-parts E t (app f a) k)
          (chain (of_app w.converts h)
          (same-parts E _ _
          (sym (apply-append (head_of f) (w.others ++ projections r 0 m u) (proj r m u ∷ []))
          ∙ ap (apply (head_of f)) list
          ∙ ap (λ x. apply (head_of x) (w.others ++ projections r 0 n u)) (sym k))));
    }

-- a full maker whose fields are the projections of u
pub maker-eta : (E : List Decl) (r : RecId) (n : ℕ) (t u : Tree) → IsFullMaker E t r n → AreProjections E r u n t → Convertible E t u
maker-eta E r n t u m h =
    let w = with-projections E r u n t h in
    let a = m.arguments in
    let c = w.count in
    let f = m.fields in
    chain w.converts
    (by_eta
    (record_eta r w.others m.declared (omega arith) (rw f at m.some)
    (ap (λ x. apply x (w.others ++ projections r 0 n u)) m.head ∙ (λ i. apply (maker r.0) (w.others ++ projections r 0 (f i) u)))))
