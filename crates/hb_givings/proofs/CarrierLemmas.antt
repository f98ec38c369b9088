-- Constants that are the same, and the givings at one carrier.
use Rattle.std.proofs.Common.{◌≡◌, ℕ, Bool, true, false, true≢false, cond, ◌&&◌, ◌||◌, List, [], ◌∷◌, ◌++◌, refl, sym, ap, ◌∙◌, arith, nat_eq}
use Rattle.std.specs.Prelude.{fold}
use Rattle.std.specs.Bool.{beq}
use Rattle.std.specs.List.{list_any}
use Rattle.std.proofs.lemmas.Bool.Decides.{nat_tests}
use Rattle.std.proofs.lemmas.List.Folds.{list_any-append}
use Rattle.hb_order.specs.Givings.{Giving}
use Rattle.hb_tree.specs.declared.leaves.ConstId.{ConstId}
use Rattle.hb_givings.specs.Givings.{Given, same_const, givings_at, with_carrier, carriers_of}

flag-itself : (b : Bool) → beq b b ≡ true
flag-itself true = refl
flag-itself false = refl

number-itself : (n : ℕ) → nat_eq n n ≡ true
number-itself n = grind (arith, nat_tests)

pub same-itself : (k : ConstId) → same_const k k ≡ true
same-itself k = λ i. number-itself k.decl i && flag-itself k.maker i

flag-swap : (a b : Bool) → beq a b ≡ beq b a
flag-swap true true = refl
flag-swap true false = refl
flag-swap false true = refl
flag-swap false false = refl

number-swap : (a b : ℕ) → nat_eq a b ≡ nat_eq b a
number-swap a b = grind (arith, nat_tests)

pub same-swap : (a b : ConstId) → same_const a b ≡ same_const b a
same-swap a b = λ i. number-swap a.decl b.decl i && flag-swap a.maker b.maker i

both : (x y : Bool) → (x && y) ≡ true → (x ≡ true) × (y ≡ true)
both true true is = (refl, refl)
both true false is = absurd (true≢false (sym is))
both false y is = absurd (true≢false (sym is))

flag-equal : (x y : Bool) → beq x y ≡ true → x ≡ y
flag-equal true true is = refl
flag-equal true false is = absurd (true≢false (sym is))
flag-equal false true is = absurd (true≢false (sym is))
flag-equal false false is = refl

number-equal : (q x : ℕ) → nat_eq q x ≡ true → q ≡ x
number-equal q x is = grind (arith, nat_tests)

-- constants that are the same are equal
pub same-equal : (a b : ConstId) → same_const a b ≡ true → a ≡ b
same-equal a b is =
    let parts = both (nat_eq a.decl b.decl) (beq a.maker b.maker) is in
    (λ i. record { decl = number-equal a.decl b.decl parts.0 i; maker = flag-equal a.maker b.maker parts.1 i })

-- one more giving at the carrier, or at another
pub at-push : (gs : List Given) (g : Given) (k : ConstId) → givings_at (gs ++ g ∷ []) k ≡ cond (same_const g.carrier k) (givings_at gs k ++ g.giving ∷ []) (givings_at gs k)
at-push [] g k = refl
at-push (x ∷ gs) g k = by (same_const x.carrier k) (same_const g.carrier k) (givings_at (gs ++ g ∷ []) k) (givings_at gs k) (at-push gs g k)
  where
    by : (b c : Bool) (more less : List Giving) → more ≡ cond c (less ++ g.giving ∷ []) less → cond b (x.giving ∷ more) more ≡ cond c (cond b (x.giving ∷ less) less ++ g.giving ∷ []) (cond b (x.giving ∷ less) less)
    by true true more less is = ap (λ r. x.giving ∷ r) is
    by true false more less is = ap (λ r. x.giving ∷ r) is
    by false true more less is = is
    by false false more less is = is

fold-push : (ks : List ConstId) (gs : List Given) (g : Given) → fold (λ ks g. with_carrier ks g.carrier) ks (gs ++ g ∷ []) ≡ with_carrier (fold (λ ks g. with_carrier ks g.carrier) ks gs) g.carrier
fold-push ks [] g = refl
fold-push ks (x ∷ gs) g = fold-push (with_carrier ks x.carrier) gs g

pub carriers-push : (gs : List Given) (g : Given) → carriers_of (gs ++ g ∷ []) ≡ with_carrier (carriers_of gs) g.carrier
carriers-push gs g = fold-push [] gs g

-- whether a list of givings has one
abbrev pub some_giving : List Giving → Bool
some_giving [] = false
some_giving (g ∷ gs) = true

abbrev pub among : List ConstId → ConstId → Bool
among ks k = list_any (λ other. same_const other k) ks

-- the carriers are those with a giving
module _ (k : ConstId) where
  among-with : (ks : List ConstId) (c : ConstId) → among (with_carrier ks c) k ≡ (among ks k || same_const c k)
  among-with ks c = by (among ks c) refl
    where
      there : (b : Bool) → same_const c k ≡ b → among ks c ≡ true → among ks k ≡ (among ks k || b)
      there true is on = let on' : among ks k ≡ true = ap (among ks) (sym (same-equal c k is)) ∙ on in on' ∙ ap (λ b. b || true) (sym on')
      there false is on = by_none (among ks k)
        where
          by_none : (b : Bool) → b ≡ (b || false)
          by_none true = refl
          by_none false = refl

      by : (b : Bool) → among ks c ≡ b → among (cond b ks (ks ++ c ∷ [])) k ≡ (among ks k || same_const c k)
      by true on = there (same_const c k) refl on
      by false off = list_any-append (λ other. same_const other k) ks (c ∷ []) ∙ ap (λ b. among ks k || b) (last (same_const c k))
        where
          last : (b : Bool) → (b || false) ≡ b
          last true = refl
          last false = refl

  among-fold : (ks : List ConstId) (gs : List Given) → among (fold (λ ks g. with_carrier ks g.carrier) ks gs) k ≡ (among ks k || some_giving (givings_at gs k))
  among-fold ks [] = none (among ks k)
    where
      none : (b : Bool) → b ≡ (b || false)
      none true = refl
      none false = refl
  among-fold ks (g ∷ gs) = among-fold (with_carrier ks g.carrier) gs ∙ ap (λ b. b || some_giving (givings_at gs k)) (among-with ks g.carrier) ∙ by (among ks k) (same_const g.carrier k) (givings_at gs k)
    where
      by : (a b : Bool) (rest : List Giving) → ((a || b) || some_giving rest) ≡ (a || some_giving (cond b (g.giving ∷ rest) rest))
      by true b rest = refl
      by false true rest = refl
      by false false rest = refl

  pub among-carriers : (gs : List Given) → among (carriers_of gs) k ≡ some_giving (givings_at gs k)
  among-carriers gs = among-fold [] gs
