-- Instances at arguments, and what bringing an argument twice gives.
use Rattle.std.proofs.Common.{◌≡◌, ◌∙◌, refl, sym, ap, subst, ℕ, zero, suc, ◌+◌, ◌<◌, ◌≤◌, Bool, true, false, true≢false, cond, List, [], ◌∷◌, length, map, Option, Some, None, ◌⊎◌, inl, inr, arith, nat_eq}
use Rattle.std.specs.Prelude.{slice_get}
use Rattle.std.proofs.lemmas.Bool.Decides.{nat_tests}
use Rattle.std.proofs.lemmas.List.{length-map}
use Rattle.hb_tree.specs.Tree.{Tree, rel, lam, app, const, proj, lift, subst_at, apply}
use Rattle.hb_tree.specs.declared.leaves.ConstId.{ConstId}
use Rattle.hb_tree.specs.declared.leaves.RecId.{RecId}
use Rattle.hb_tree.proofs.LiftLaws.{lift_zero}
use Rattle.hb_tree.proofs.SubstLaws.{subst_lift}
use Rattle.hb_tree.proofs.Variables.{subst_below, subst_here}
use Rattle.hb_calculus.specs.Declarations.{Decl, body_in}
use Rattle.hb_calculus.specs.Telescopes.{former, maker, variables, filled}
use Rattle.hb_calculus.specs.Step.{beta, delta, here}
use Rattle.hb_calculus.specs.Conversion.{Convertible, same, back, chain, by_step, of_app, of_proj}
use Rattle.hb_paths.specs.Packs.{Shape, Has, sort_of, value_of, packed, IsStrict, AreCoerced}
use Rattle.hb_paths.specs.Carriers.{functions, brought, all_brought, nones, asked_type, instance_at, instance_body, NeedsLess, AllNeedLess, CarriersAreCoherent}
use Rattle.hb_paths.proofs.PackLemmas.{packed-parts, sort-packed, coerced, coerced-packed}

-- values put in for the variables go through every former
filled-app : (f a : Tree) (vs : List Tree) → filled (app f a) vs ≡ app (filled f vs) (filled a vs)
filled-app f a [] = refl
filled-app f a (v ∷ rest) = filled-app (subst_at f v (length rest)) (subst_at a v (length rest)) rest

filled-const : (c : ConstId) (vs : List Tree) → filled (const c) vs ≡ const c
filled-const c [] = refl
filled-const c (v ∷ rest) = filled-const c rest

filled-proj : (r : RecId) (i : ℕ) (t : Tree) (vs : List Tree) → filled (proj r i t) vs ≡ proj r i (filled t vs)
filled-proj r i t [] = refl
filled-proj r i t (v ∷ rest) = filled-proj r i (subst_at t v (length rest)) rest

filled-apply : (f : Tree) (xs vs : List Tree) → filled (apply f xs) vs ≡ apply (filled f vs) (map (λ x. filled x vs) xs)
filled-apply f [] vs = refl
filled-apply f (x ∷ xs) vs = filled-apply (app f x) xs vs ∙ ap (λ g. apply g (map (λ x. filled x vs) xs)) (filled-app f x vs)

filled-values : (f : Tree) (u : ℕ → Tree) (ms : List ℕ) (vs : List Tree) → filled (apply f (map u ms)) vs ≡ apply (filled f vs) (map (λ m. filled (u m) vs) ms)
filled-values f u [] vs = refl
filled-values f u (m ∷ ms) vs = filled-values (app f (u m)) u ms vs ∙ ap (λ g. apply g (map (λ m. filled (u m) vs) ms)) (filled-app f (u m) vs)

-- a value that was lifted past all of them comes back
filled-lift : (v : Tree) (rest : List Tree) → filled (lift v (length rest) 0) rest ≡ v
filled-lift v [] = lift_zero v 0
filled-lift v (w ∷ rest) = ap (λ t. filled t rest) (put (length rest) _ (omega arith)) ∙ filled-lift v rest
  where
    put : (n l : ℕ) → l ≡ n + 1 → subst_at (lift v l 0) w n ≡ lift v n 0
    put n l e = ap (λ k. subst_at (lift v k 0) w n) e ∙ subst_lift v w n 0 n (omega arith) (omega arith)

-- the variables become the values
filled-variables : (vs : List Tree) → map (λ x. filled x vs) (variables (length vs) 0) ≡ vs
filled-variables [] = refl
filled-variables (v ∷ rest) =
    (λ i. first i ∷ others (length rest) (omega arith) i) ∙ ap (λ xs. v ∷ xs) (filled-variables rest)
  where
    first : filled (rel (length rest + 0)) (v ∷ rest) ≡ v
    first = ap (λ t. filled t rest) (subst_here (length rest + 0) v (length rest) (omega arith)) ∙ filled-lift v rest

    others : (n : ℕ) → n ≤ length rest → map (λ x. filled x (v ∷ rest)) (variables n 0) ≡ map (λ x. filled x rest) (variables n 0)
    others zero le = refl
    others (suc n) le = λ i. filled (subst_below (n + 0) v (length rest) (omega (arith, le)) i) rest ∷ others n (omega (arith, le)) i

module _ (E : List Decl) where
  head-converts : (f g : Tree) (xs : List Tree) → Convertible E f g → Convertible E (apply f xs) (apply g xs)
  head-converts f g [] h = h
  head-converts f g (x ∷ xs) h = head-converts (app f x) (app g x) xs (of_app h same)

  -- a function of several arguments
  several : (ts vs : List Tree) (b : Tree) → length vs ≡ length ts → Convertible E (apply (functions ts b) vs) (filled b vs)
  several [] [] b e = same
  several [] (v ∷ vs) b e = absurd cc
  several (a ∷ ts) [] b e = absurd cc
  several (a ∷ ts) (v ∷ vs) b e =
      chain (head-converts _ _ vs (by_step (here (beta refl))))
      (subst (λ t. Convertible E (apply t vs) (filled (subst_at b v (length vs)) vs)) (sym (put ts 0 (length vs) (omega (arith, e))))
      (several (puts ts 0) vs (subst_at b v (length vs)) (omega (arith, e, puts-long ts 0))))
    where
      puts : List Tree → ℕ → List Tree
      puts [] k = []
      puts (c ∷ cs) k = subst_at c v k ∷ puts cs (k + 1)

      puts-long : (cs : List Tree) (k : ℕ) → length (puts cs k) ≡ length cs
      puts-long [] k = refl
      puts-long (c ∷ cs) k = ap suc (puts-long cs (k + 1))

      put : (cs : List Tree) (k l : ℕ) → l ≡ k + length cs → subst_at (functions cs b) v k ≡ functions (puts cs k) (subst_at b v l)
      put [] k l is = ap (λ j. subst_at b v j) (let f : k ≡ l = omega (arith, is) in f)
      put (c ∷ cs) k l is = ap (λ t. lam (subst_at c v k) t) (put cs (k + 1) l (omega (arith, is)))

  module _ (n : ℕ) (shape : ℕ → Shape) (coercion : ℕ → ℕ → ℕ) (are : AreCoerced E n shape coercion) where
    filled-brought : (u w : Option ℕ) (a : Tree) (vs : List Tree) → filled (brought shape coercion u w a) vs ≡ brought shape coercion u w (filled a vs)
    filled-brought None w a vs = refl
    filled-brought (Some u) None a vs = filled-proj _ 0 a vs
    filled-brought (Some u) (Some w) a vs = by (nat_eq u w)
      where
        by : (b : Bool) → filled (cond b a (app (const (record { decl = coercion u w; maker = false })) a)) vs ≡ cond b (filled a vs) (app (const (record { decl = coercion u w; maker = false })) (filled a vs))
        by true = refl
        by false = filled-app _ a vs ∙ ap (λ f. app f (filled a vs)) (filled-const _ vs)

    filled-all : (us ws : List (Option ℕ)) (xs vs : List Tree) → map (λ x. filled x vs) (all_brought shape coercion us ws xs) ≡ all_brought shape coercion us ws (map (λ x. filled x vs) xs)
    filled-all (u ∷ us) (w ∷ ws) (x ∷ xs) vs = λ i. filled-brought u w x vs i ∷ filled-all us ws xs vs i
    filled-all (u ∷ us) (w ∷ ws) [] vs = refl
    filled-all (u ∷ us) [] xs vs = refl
    filled-all [] ws xs vs = refl

    at-values : (c : ConstId) (us ws : List (Option ℕ)) (vs : List Tree) (l : ℕ) → l ≡ length vs
        → filled (apply (const c) (all_brought shape coercion us ws (variables l 0))) vs ≡ apply (const c) (all_brought shape coercion us ws vs)
    at-values c us ws vs l e =
        ap (λ k. filled (apply (const c) (all_brought shape coercion us ws (variables k 0))) vs) e
        ∙ filled-apply (const c) (all_brought shape coercion us ws (variables (length vs) 0)) vs
        ∙ (λ i. apply (filled-const c vs i) (filled-all us ws (variables (length vs) 0) vs i))
        ∙ ap (λ xs. apply (const c) (all_brought shape coercion us ws xs)) (filled-variables vs)

    -- a value of a structure at values
    filled-packed : (T : Shape) (a : Tree) (u : ℕ → Tree) (vs : List Tree) → filled (packed T a u) vs ≡ packed T (filled a vs) (λ m. filled (u m) vs)
    filled-packed T a u vs =
        filled-app (app (maker T.pack) a) (apply (app (maker T.class) a) (map u T.mixins)) vs
        ∙ (λ i. app
        ((filled-app (maker T.pack) a vs ∙ ap (λ f. app f (filled a vs)) (filled-const _ vs)) i)
        ((filled-values (app (maker T.class) a) u T.mixins vs ∙ ap (λ f. apply f (map (λ m. filled (u m) vs) T.mixins)) (filled-app (maker T.class) a vs ∙ ap (λ f. app f (filled a vs)) (filled-const _ vs))) i))

    same-values : (T : Shape) (a b : Tree) (u v : ℕ → Tree) → a ≡ b → ((m : ℕ) → u m ≡ v m) → Convertible E (packed T a u) (packed T b v)
    same-values T a b u v e each = packed-parts E T a b u v (subst (λ x. Convertible E a x) e same) (λ m has. subst (λ x. Convertible E (u m) x) (each m) same)

    -- an instance at arguments is the value of its structure there
    instance-packed : (k : ConstId) (value : ℕ → ConstId) (cond : ℕ → List (Option ℕ)) (S : Shape) (us : List (Option ℕ)) (c : ℕ)
        → body_in (slice_get E c) ≡ Some (instance_body shape coercion k value cond S us) → (vs : List Tree) → length vs ≡ length us
        → Convertible E (apply (const (record { decl = c; maker = false })) vs) (instance_at shape coercion k value cond S us vs)
    instance-packed k value cond S us c is vs e =
        chain (head-converts _ _ vs (by_step (here (delta refl is))))
        (chain (several (map (asked_type shape) us) vs _ (e ∙ sym (length-map us (asked_type shape))))
        (subst (λ t. Convertible E t (instance_at shape coercion k value cond S us vs)) (sym (filled-packed S _ _ vs))
        (same-values S _ _ _ _ (at-values k us (nones us) vs (length us) (sym e)) (λ m. at-values (value m) us (cond m) vs (length us) (sym e)))))

    differ : (u w : ℕ) → IsStrict (shape u) (shape w) → nat_eq u w ≡ false
    differ u w strict = by (nat_eq u w) refl
      where
        by : (b : Bool) → nat_eq u w ≡ b → b ≡ false
        by false is = refl
        by true is = let e : u ≡ w = grind (arith, nat_tests) in absurd (strict.outside (subst (λ k. (m : ℕ) → Has (shape u).mixins m → Has (shape k).mixins m) e (λ m h. h)))

    itself : (u : ℕ) (x y : Tree) → cond (nat_eq u u) x y ≡ x
    itself u x y = let e : nat_eq u u ≡ true = grind (arith, nat_tests) in ap (λ b. cond b x y) e

    coerces : (u w : ℕ) (a : Tree) → u < n → w < n → IsStrict (shape u) (shape w) → Convertible E (brought shape coercion (Some u) (Some w) a) (packed (shape w) (sort_of (shape u) a) (λ m. value_of (shape u) m a))
    coerces u w a lu lw strict =
        subst (λ b. Convertible E (cond b a (app (const (record { decl = coercion u w; maker = false })) a)) (packed (shape w) (sort_of (shape u) a) (λ m. value_of (shape u) m a))) (sym (differ u w strict))
        (coerced E (shape u) (shape w) (coercion u w) (are.coercions u w lu lw strict) a)

    through : (u v w : ℕ) → IsStrict (shape u) (shape v) → IsStrict (shape v) (shape w) → IsStrict (shape u) (shape w)
    through u v w first second = record { inside = λ m h. first.inside m (second.inside m h); outside = λ h. first.outside (λ m has. second.inside m (h m has)) }

    -- bringing an argument twice
    twice : (u v w : Option ℕ) (a : Tree) → NeedsLess n shape u v → NeedsLess n shape v w → Convertible E (brought shape coercion v w (brought shape coercion u v a)) (brought shape coercion u w a)
    twice None None w a f g = same
    twice None (Some v) w a f g = absurd f
    twice (Some u) None None a f g = same
    twice (Some u) None (Some w) a f g = absurd g
    twice (Some u) (Some v) w a (inl e) g =
        subst (λ x. Convertible E (brought shape coercion (Some v) w x) (brought shape coercion (Some u) w a)) (sym (ap (λ k. cond (nat_eq u k) a (app (const (record { decl = coercion u k; maker = false })) a)) (sym e) ∙ itself u a _))
        (subst (λ k. Convertible E (brought shape coercion (Some k) w a) (brought shape coercion (Some u) w a)) e same)
    twice (Some u) (Some v) None a (inr (lu, lv, strict)) g =
        chain (of_proj (coerces u v a lu lv strict)) (sort-packed E (shape v) (are.shapes v lv) (sort_of (shape u) a) (λ m. value_of (shape u) m a))
    twice (Some u) (Some v) (Some w) a (inr (lu, lv, strict)) (inl e) =
        subst (λ k. Convertible E (brought shape coercion (Some v) (Some k) (brought shape coercion (Some u) (Some v) a)) (brought shape coercion (Some u) (Some k) a)) e
        (subst (λ x. Convertible E x (brought shape coercion (Some u) (Some v) a)) (sym (itself v _ _)) same)
    twice (Some u) (Some v) (Some w) a (inr (lu, lv, strict)) (inr (lv', lw, inner)) =
        chain
        (subst (λ b. Convertible E (cond b (brought shape coercion (Some u) (Some v) a) (app (const (record { decl = coercion v w; maker = false })) (brought shape coercion (Some u) (Some v) a))) (packed (shape w) (sort_of (shape u) a) (λ m. value_of (shape u) m a))) (sym (differ v w inner))
        (coerced-packed E (shape v) (shape w) (are.shapes v lv) inner.inside (coercion v w) (are.coercions v w lv lw inner) _ _ _ (coerces u v a lu lv strict)))
        (back (coerces u w a lu lw (through u v w strict inner)))

    all-twice : (c : ConstId) (f g : Tree) (us vs ws : List (Option ℕ)) (xs : List Tree) → Convertible E f g → AllNeedLess n shape us vs → AllNeedLess n shape vs ws
        → Convertible E (apply f (all_brought shape coercion us ws xs)) (apply g (all_brought shape coercion vs ws (all_brought shape coercion us vs xs)))
    all-twice c f g [] [] [] xs h l r = h
    all-twice c f g [] [] (w ∷ ws) xs h l r = absurd r
    all-twice c f g [] (v ∷ vs) ws xs h l r = absurd l
    all-twice c f g (u ∷ us) [] ws xs h l r = absurd l
    all-twice c f g (u ∷ us) (v ∷ vs) [] xs h l r = absurd r
    all-twice c f g (u ∷ us) (v ∷ vs) (w ∷ ws) [] h l r = h
    all-twice c f g (u ∷ us) (v ∷ vs) (w ∷ ws) (x ∷ xs) h l r = all-twice c (app f (brought shape coercion u w x)) (app g (brought shape coercion v w (brought shape coercion u v x))) us vs ws xs (of_app h (back (twice u v w x l.0 r.0))) l.1 r.1

    need-nothing : (vs : List (Option ℕ)) → AllNeedLess n shape vs (nones vs)
    need-nothing [] = tt
    need-nothing (v ∷ vs) = (tt, need-nothing vs)

    nones-same : (us vs : List (Option ℕ)) → AllNeedLess n shape us vs → nones us ≡ nones vs
    nones-same [] [] l = refl
    nones-same [] (v ∷ vs) l = absurd l
    nones-same (u ∷ us) [] l = absurd l
    nones-same (u ∷ us) (v ∷ vs) l = ap (λ xs. None ∷ xs) (nones-same us vs l.1)

    brought-long : (us ws : List (Option ℕ)) (xs : List Tree) → AllNeedLess n shape us ws → length xs ≡ length us → length (all_brought shape coercion us ws xs) ≡ length ws
    brought-long [] [] xs l e = refl
    brought-long [] (w ∷ ws) xs l e = absurd l
    brought-long (u ∷ us) [] xs l e = absurd l
    brought-long (u ∷ us) (w ∷ ws) [] l e = absurd cc
    brought-long (u ∷ us) (w ∷ ws) (x ∷ xs) l e = ap suc (brought-long us ws xs l.1 (omega (arith, e)))

pub coherent : CarriersAreCoherent
coherent E n shape coercion are k value cond s t i j us ws ls lt strict is js less each args e =
    chain (coerced-packed E (shape s) (shape t) (are.shapes s ls) strict.inside (coercion s t) (are.coercions s t ls lt strict) _ _ _
    (instance-packed E n shape coercion are k value cond (shape s) us i is args e))
    (chain
    (packed-parts E (shape t) _ _ _ _
    (subst (λ os. Convertible E (apply (const k) (all_brought shape coercion us os args)) (apply (const k) (all_brought shape coercion ws (nones ws) (all_brought shape coercion us ws args)))) (sym (nones-same E n shape coercion are us ws less))
    (all-twice E n shape coercion are k _ _ us ws (nones ws) args same less (need-nothing E n shape coercion are ws)))
    (λ m has. all-twice E n shape coercion are k _ _ us ws (cond m) args same less (each m has)))
    (back (instance-packed E n shape coercion are k value cond (shape t) ws j js (all_brought shape coercion us ws args) (brought-long E n shape coercion are us ws args less e))))
