-- A coercion keeps the carrier and the values of the mixins; so does a path.
use Rattle.std.proofs.Common.{◌≡◌, ◌∙◌, refl, sym, ap, subst, ℕ, zero, suc, ◌<◌, Bool, true, false, true≢false, cond, List, [], ◌∷◌, length, map, Some, ◌⊎◌, inl, inr, arith, nat_eq}
use Rattle.std.specs.Prelude.{slice_get}
use Rattle.std.proofs.lemmas.Bool.Decides.{nat_tests}
use Rattle.std.proofs.lemmas.List.{length-map}
use Rattle.hb_tree.specs.Tree.{Tree, rel, lam, app, const, proj, lift, subst_at, apply}
use Rattle.hb_tree.proofs.LiftLaws.{lift_zero}
use Rattle.hb_calculus.specs.Declarations.{Decl, body_in}
use Rattle.hb_calculus.specs.Telescopes.{former, maker}
use Rattle.hb_calculus.specs.Step.{beta, delta, projection, here}
use Rattle.hb_calculus.specs.Conversion.{Convertible, same, back, chain, by_step, of_app, of_proj}
use Rattle.hb_paths.specs.Packs.{Shape, Has, index_in, sort_of, value_of, packed, coercion_body, IsShape, IsStrict, AreCoerced, IsPath, along, PathsAreConvertible}

-- the value at the place of m
value-at : (v : ℕ → Tree) (ms : List ℕ) (m : ℕ) → Has ms m → slice_get (map v ms) (index_in ms m) ≡ Some (v m)
value-at v [] m h = absurd h
value-at v (n ∷ ns) m h = at (nat_eq n m) refl h (value-at v ns m)
  where
    at : (b : Bool) → nat_eq n m ≡ b → (m ≡ n) ⊎ Has ns m → (Has ns m → slice_get (map v ns) (index_in ns m) ≡ Some (v m)) → slice_get (v n ∷ map v ns) (cond b zero (suc (index_in ns m))) ≡ Some (v m)
    at true is h rest = let e : n ≡ m = grind (arith, nat_tests) in ap (λ k. Some (v k)) e
    at false is (inl e) rest = let f : nat_eq n m ≡ true = grind (arith, nat_tests) in absurd (true≢false (sym f ∙ is))
    at false is (inr later) rest = rest later

-- substitution goes into an application, and into the values of a list
subst-values : (f t : Tree) (u : ℕ → Tree) (ms : List ℕ) → subst_at (apply f (map u ms)) t 0 ≡ apply (subst_at f t 0) (map (λ m. subst_at (u m) t 0) ms)
subst-values f t u [] = refl
subst-values f t u (m ∷ ms) = subst-values (app f (u m)) t u ms

module _ (E : List Decl) where
  -- convertible parts make convertible values
  parts : (f g : Tree) (u v : ℕ → Tree) (ms : List ℕ) → Convertible E f g → ((m : ℕ) → Has ms m → Convertible E (u m) (v m)) → Convertible E (apply f (map u ms)) (apply g (map v ms))
  parts f g u v [] head each = head
  parts f g u v (m ∷ ms) head each = parts (app f (u m)) (app g (v m)) u v ms (of_app head (each m (inl refl))) (λ k h. each k (inr h))

  pub packed-parts : (T : Shape) (a b : Tree) (u v : ℕ → Tree) → Convertible E a b → ((m : ℕ) → Has T.mixins m → Convertible E (u m) (v m)) → Convertible E (packed T a u) (packed T b v)
  packed-parts T a b u v sorts each = of_app (of_app same sorts) (parts (app (maker T.class) a) (app (maker T.class) b) u v T.mixins (of_app same sorts) each)

  pub sort-packed : (S : Shape) → IsShape E S → (a : Tree) (v : ℕ → Tree) → Convertible E (sort_of S (packed S a v)) a
  sort-packed S is a v = by_step (here (projection [] (a ∷ apply (maker S.class) (a ∷ map v S.mixins) ∷ []) is.pack_is (sym is.pack_params) (sym is.pack_fields) refl refl))

  class-packed : (S : Shape) → IsShape E S → (a : Tree) (v : ℕ → Tree) → Convertible E (proj (record { 0 = S.pack }) 1 (packed S a v)) (apply (maker S.class) (a ∷ map v S.mixins))
  class-packed S is a v = by_step (here (projection [] (a ∷ apply (maker S.class) (a ∷ map v S.mixins) ∷ []) is.pack_is (sym is.pack_params) (sym is.pack_fields) refl refl))

  value-packed : (S : Shape) → IsShape E S → (a : Tree) (v : ℕ → Tree) (m : ℕ) → Has S.mixins m → Convertible E (value_of S m (packed S a v)) (v m)
  value-packed S is a v m has =
      chain (of_proj (class-packed S is a v))
      (by_step (here (projection (a ∷ []) (map v S.mixins) is.class_is (sym is.class_params) (length-map S.mixins v ∙ sym is.class_fields) refl (value-at v S.mixins m has))))

  -- a coercion at any term
  pub coerced : (S T : Shape) (c : ℕ) → body_in (slice_get E c) ≡ Some (coercion_body S T) → (t : Tree) → Convertible E (app (const (record { decl = c; maker = false })) t) (packed T (sort_of S t) (λ m. value_of S m t))
  coerced S T c is t = chain (of_app (by_step (here (delta refl is))) same) (by_step (here (beta (sym put))))
    where
      put : subst_at (packed T (sort_of S (rel 0)) (λ m. value_of S m (rel 0))) t 0 ≡ packed T (sort_of S t) (λ m. value_of S m t)
      put =
          ap (λ x. app (app (maker T.pack) (sort_of S (lift t 0 0))) x) (subst-values (app (maker T.class) (sort_of S (rel 0))) t (λ m. value_of S m (rel 0)) T.mixins)
          ∙ ap (λ x. packed T (sort_of S x) (λ m. value_of S m x)) (lift_zero t 0)

  -- a coercion keeps the carrier and the values
  pub coerced-packed : (S T : Shape) → IsShape E S → ((m : ℕ) → Has T.mixins m → Has S.mixins m) → (c : ℕ) → body_in (slice_get E c) ≡ Some (coercion_body S T)
      → (t a : Tree) (v : ℕ → Tree) → Convertible E t (packed S a v) → Convertible E (app (const (record { decl = c; maker = false })) t) (packed T a v)
  coerced-packed S T is inside c body t a v h =
      chain (coerced S T c body t)
      (packed-parts T (sort_of S t) a (λ m. value_of S m t) v
      (chain (of_proj h) (sort-packed S is a v))
      (λ m has. chain (of_proj (of_proj h)) (value-packed S is a v m (inside m has))))

  module _ (n : ℕ) (shape : ℕ → Shape) (coercion : ℕ → ℕ → ℕ) (are : AreCoerced E n shape coercion) where
    along-packed : (a c : ℕ) (p : List ℕ) → a < n → IsPath n shape a p c → (t x : Tree) (v : ℕ → Tree) → Convertible E t (packed (shape a) x v) → Convertible E (along coercion a p t) (packed (shape c) x v)
    along-packed a c [] lt is t x v h = subst (λ k. Convertible E t (packed (shape k) x v)) is h
    along-packed a c (b ∷ rest) lt is t x v h =
        along-packed b c rest is.0 is.2 _ x v (coerced-packed (shape a) (shape b) (are.shapes a lt) is.1.inside (coercion a b) (are.coercions a b lt is.0 is.1) t x v h)

    -- a path with a step gives the carrier and the values of its start
    path-packed : (a b c : ℕ) (rest : List ℕ) → a < n → IsPath n shape a (b ∷ rest) c → (t : Tree) → Convertible E (along coercion a (b ∷ rest) t) (packed (shape c) (sort_of (shape a) t) (λ m. value_of (shape a) m t))
    path-packed a b c rest lt is t =
        along-packed b c rest is.0 is.2 _ (sort_of (shape a) t) (λ m. value_of (shape a) m t) (coerced (shape a) (shape b) (coercion a b) (are.coercions a b lt is.0 is.1) t)

    path-inside : (a c : ℕ) (p : List ℕ) → IsPath n shape a p c → (m : ℕ) → Has (shape c).mixins m → Has (shape a).mixins m
    path-inside a c [] is m h = subst (λ k. Has (shape k).mixins m) (sym is) h
    path-inside a c (b ∷ rest) is m h = is.1.inside m (path-inside b c rest is.2 m h)

    no-loop : (a b : ℕ) (rest : List ℕ) → IsPath n shape a (b ∷ rest) a → ⊥
    no-loop a b rest is = is.1.outside (path-inside b a rest is.2)

    path-declared : (a c : ℕ) (p : List ℕ) → a < n → IsPath n shape a p c → c < n
    path-declared a c [] lt is = subst (λ k. k < n) is lt
    path-declared a c (b ∷ rest) lt is = path-declared b c rest is.0 is.2

    meets : (a c : ℕ) (p q : List ℕ) → a < n → IsPath n shape a p c → IsPath n shape a q c → (t : Tree) → Convertible E (along coercion a p t) (along coercion a q t)
    meets a c [] [] lt is js t = same
    meets a c [] (b ∷ rest) lt is js t = absurd (no-loop a b rest (subst (λ k. IsPath n shape a (b ∷ rest) k) (sym is) js))
    meets a c (b ∷ rest) [] lt is js t = absurd (no-loop a b rest (subst (λ k. IsPath n shape a (b ∷ rest) k) (sym js) is))
    meets a c (b ∷ rest) (d ∷ others) lt is js t = chain (path-packed a b c rest lt is t) (back (path-packed a d c others lt js t))

    sorts-stay : (a c : ℕ) (p : List ℕ) → a < n → IsPath n shape a p c → (t : Tree) → Convertible E (sort_of (shape c) (along coercion a p t)) (sort_of (shape a) t)
    sorts-stay a c [] lt is t = subst (λ k. Convertible E (sort_of (shape k) t) (sort_of (shape a) t)) is same
    sorts-stay a c (b ∷ rest) lt is t =
        chain (of_proj (path-packed a b c rest lt is t)) (sort-packed (shape c) (are.shapes c (path-declared a c (b ∷ rest) lt is)) (sort_of (shape a) t) (λ m. value_of (shape a) m t))

pub paths_converge : PathsAreConvertible
paths_converge E n shape coercion are a c p q lt is js t = (meets E n shape coercion are a c p q lt is js t, sorts-stay E n shape coercion are a c p lt is t)
