-- What a later giving changes, and what it keeps.
use Rattle.std.proofs.Common.{◌≡◌, ℕ, Bool, true, false, true≢false, List, [], ◌∷◌, ◌++◌, ◌||◌, refl, sym, ap, ◌∙◌, cond}
use Rattle.hb_sets.specs.Set.{In, contains, empty, union}
use Rattle.hb_sets.proofs.SetLemmas.{same_members, contains-either, contains-none}
use Rattle.hb_order.specs.Givings.{Giving, given, condition}

contains-given_push : (gs : List Giving) (g : Giving) (q : ℕ) → contains (given (gs ++ g ∷ [])) q ≡ (contains (given gs) q || contains g.gives q)
contains-given_push [] g q = contains-either g.gives empty q ∙ swap _ _ (contains-none q)
  where
    swap : (a e : Bool) → e ≡ false → (a || e) ≡ (e || a)
    swap true true is = refl
    swap true false is = refl
    swap false true is = refl
    swap false false is = refl
contains-given_push (x ∷ gs) g q =
    contains-either x.gives (given (gs ++ g ∷ [])) q
    ∙ ap (λ b. contains x.gives q || b) (contains-given_push gs g q)
    ∙ grouped (contains x.gives q) (contains (given gs) q) (contains g.gives q)
    ∙ ap (λ b. b || contains g.gives q) (sym (contains-either x.gives (given gs) q))
  where
    grouped : (a b c : Bool) → (a || (b || c)) ≡ ((a || b) || c)
    grouped true b c = refl
    grouped false b c = refl

-- a later giving adds what it gives
pub given-push : (gs : List Giving) (g : Giving) → given (gs ++ g ∷ []) ≡ union (given gs) g.gives
given-push gs g = same_members _ _ (λ q. contains-given_push gs g q ∙ sym (contains-either (given gs) g.gives q))

-- what the carrier had keeps its condition
pub condition-kept : (gs : List Giving) (g : Giving) (m : ℕ) → In (given gs) m → condition (gs ++ g ∷ []) m ≡ condition gs m
condition-kept [] g m had = absurd (true≢false (sym had ∙ contains-none m))
condition-kept (x ∷ gs) g m had = either (contains x.gives m) (contains (given gs) m) (sym (contains-either x.gives (given gs) m) ∙ had) (λ later. condition-kept gs g m later)
  where
    either : (a b : Bool) → (a || b) ≡ true → (b ≡ true → condition (gs ++ g ∷ []) m ≡ condition gs m) → cond a x.binders (condition (gs ++ g ∷ []) m) ≡ cond a x.binders (condition gs m)
    either true b is rest = refl
    either false b is rest = rest is

-- what it hadn't has the binders of the giving that gives it
pub condition-new : (gs : List Giving) (g : Giving) (m : ℕ) → contains (given gs) m ≡ false → In g.gives m → condition (gs ++ g ∷ []) m ≡ g.binders
condition-new [] g m lacked has = ap (λ b. cond b g.binders []) has
condition-new (x ∷ gs) g m lacked has = later (contains x.gives m) (contains (given gs) m) (sym (contains-either x.gives (given gs) m) ∙ lacked) (λ lacks. condition-new gs g m lacks has)
  where
    later : (a b : Bool) → (a || b) ≡ false → (b ≡ false → condition (gs ++ g ∷ []) m ≡ g.binders) → cond a x.binders (condition (gs ++ g ∷ []) m) ≡ g.binders
    later true b is rest = absurd (true≢false is)
    later false b is rest = rest is
