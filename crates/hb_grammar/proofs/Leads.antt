-- The reader goes through what the productions say.
use Rattle.std.proofs.Common.{◌≡◌, ℕ, ◌+◌, Bool, true, false, List, [], ◌∷◌, ◌++◌, length, Some, refl, ap, ◌∙◌, sym}
use Rattle.hb_base.specs.declared.span.Span.{Span}
use Rattle.hb_raw.specs.Preterm.{Group, untyped, typed}
use Rattle.hb_grammar.specs.declared.mark.Mark.{Mark}
use Rattle.hb_grammar.specs.declared.mark.Mark.TheVariants.{Ident, Pair, Prop, Universe, Hole, Open, Close, Unbrace, Colon, Becomes, Gives, Arrow, Comma, Semicolon, At, Project, End}
use Rattle.hb_grammar.specs.Leaf.{Sign, Leaf, leaf, late, word, IsName, IsBound, bound}
use Rattle.hb_grammar.specs.Part.{Part, name_part, bare_part, projected_part, arrow_part, product_part, function_part}
use Rattle.hb_grammar.specs.Grammar.{Bounds, IsNames, n_one, n_more, Spine, head_spine, with_argument, spine_part, IsTerm, t_app, t_arrow, t_forall, t_fun, IsBinders, b_groups, b_typed, IsGroups, g_one, g_more, IsGroup, g_bare, g_typed, IsApp, p_head, p_more, IsArg, r_atom, r_project, IsAtom, a_name, a_bare, a_late, a_hole, a_prop, a_type, a_level, a_bracket, a_cast}
use Rattle.hb_grammar.specs.Machine.{Before, first, behind, alone, making, filled, count, Stack, right, inside, casting, lone, group_type, body, Binding, of_product, of_function, of_definition, State, want, have, more, bare_begun, binders, bares, groups, group_opened, group_names, depth, binding_depth, closing, argument, closed, bare_groups, step, argument_leaf, read}
use Rattle.std.proofs.Common.{zero-add}
use Rattle.hb_grammar.proofs.Holds.{IsProducing}
use Rattle.std.proofs.lemmas.List.{map-append, length-append}

abbrev pub mark_at : Leaf → Mark
mark_at (leaf m w d n) = m
mark_at (late m w d n) = m

abbrev pub sign_at : Leaf → Sign
sign_at (leaf m w d n) = w
sign_at (late m w d n) = w

-- the reader goes from one state to another over the leaves between
pub data Leads : State → List Leaf → State → List Leaf → Type 0 where
  stay : {s : State} {ts : List Leaf} → Leads s ts s ts
  move : {s t u : State} {l : Leaf} {ts us : List Leaf}
      → step s (mark_at l) (sign_at l) ≡ Some t → read s (mark_at l) (sign_at l) ≡ l → Leads t ts u us → Leads s (l ∷ ts) u us

pub on_to : {s t u : State} {ts us vs : List Leaf} → Leads s ts t us → Leads t us u vs → Leads s ts u vs
on_to stay k = k
on_to (move e f h) k = move e f (on_to h k)

-- a term was read, which may be closed or go on
pub data Ready : Stack → Part → State → Type 0 where
  r_have : {b : Before} {a : Part} {e : Bool} {k : Stack} → Ready k (spine_part (filled b a)) (have b a e k)
  r_right : {k : Stack} {l p : Part} {s : State} → Ready (right l k) p s → Ready k (arrow_part l p) s
  r_product : {x : Span} {k : Stack} {gs : List Group} {n : ℕ} {p : Part} {s : State}
      → Ready (body (of_product x k) gs n) p s → Ready k (product_part x gs p) s
  r_function : {x : Span} {k : Stack} {gs : List Group} {n : ℕ} {p : Part} {s : State}
      → Ready (body (of_function x k) gs n) p s → Ready k (function_part x gs p) s

abbrev pub IsCloser : Mark → Type 0
IsCloser Close = Unit {0}
IsCloser Colon = Unit {0}
IsCloser Comma = Unit {0}
IsCloser Gives = Unit {0}
IsCloser Becomes = Unit {0}
IsCloser Semicolon = Unit {0}
IsCloser Unbrace = Unit {0}
IsCloser End = Unit {0}
IsCloser _ = ⊥

pub record Closes (k : Stack) (m : Mark) (p : Part) (w : Sign) (s : State) : Type 0 where
  pub steps : step s m w ≡ closed k m p w
  pub reads : read s m w ≡ leaf m w (closing k) 0

have_closes : (b : Before) (a : Part) (e : Bool) (k : Stack) (m : Mark) (w : Sign) → IsCloser m
    → Closes k m (spine_part (filled b a)) w (have b a e k)
have_closes first a e k Close w p = record { steps = refl; reads = refl }
have_closes first a e k Colon w p = record { steps = refl; reads = refl }
have_closes first a e k Comma w p = record { steps = refl; reads = refl }
have_closes first a e k Gives w p = record { steps = refl; reads = refl }
have_closes first a e k Becomes w p = record { steps = refl; reads = refl }
have_closes first a e k Semicolon w p = record { steps = refl; reads = refl }
have_closes first a e k Unbrace w p = record { steps = refl; reads = refl }
have_closes first a e k End w p = record { steps = refl; reads = refl }
have_closes (behind s) a e k Close w p = record { steps = refl; reads = refl }
have_closes (behind s) a e k Colon w p = record { steps = refl; reads = refl }
have_closes (behind s) a e k Comma w p = record { steps = refl; reads = refl }
have_closes (behind s) a e k Gives w p = record { steps = refl; reads = refl }
have_closes (behind s) a e k Becomes w p = record { steps = refl; reads = refl }
have_closes (behind s) a e k Semicolon w p = record { steps = refl; reads = refl }
have_closes (behind s) a e k Unbrace w p = record { steps = refl; reads = refl }
have_closes (behind s) a e k End w p = record { steps = refl; reads = refl }
have_closes alone a e k Close w p = record { steps = refl; reads = refl }
have_closes alone a e k Colon w p = record { steps = refl; reads = refl }
have_closes alone a e k Comma w p = record { steps = refl; reads = refl }
have_closes alone a e k Gives w p = record { steps = refl; reads = refl }
have_closes alone a e k Becomes w p = record { steps = refl; reads = refl }
have_closes alone a e k Semicolon w p = record { steps = refl; reads = refl }
have_closes alone a e k Unbrace w p = record { steps = refl; reads = refl }
have_closes alone a e k End w p = record { steps = refl; reads = refl }
have_closes (making s) a e k Close w p = record { steps = refl; reads = refl }
have_closes (making s) a e k Colon w p = record { steps = refl; reads = refl }
have_closes (making s) a e k Comma w p = record { steps = refl; reads = refl }
have_closes (making s) a e k Gives w p = record { steps = refl; reads = refl }
have_closes (making s) a e k Becomes w p = record { steps = refl; reads = refl }
have_closes (making s) a e k Semicolon w p = record { steps = refl; reads = refl }
have_closes (making s) a e k Unbrace w p = record { steps = refl; reads = refl }
have_closes (making s) a e k End w p = record { steps = refl; reads = refl }
have_closes _ a e k _ w p = absurd p

pub close_step : {k : Stack} {p : Part} {s : State} → Ready k p s → (m : Mark) (w : Sign) → IsCloser m → Closes k m p w s
close_step (r_have {b = b} {a = a} {e = e} {k = k}) m w c = have_closes b a e k m w c
close_step (r_right r) m w c = let h = close_step r m w c in record { steps = h.steps; reads = h.reads }
close_step (r_product r) m w c = let h = close_step r m w c in record { steps = h.steps; reads = h.reads }
close_step (r_function r) m w c = let h = close_step r m w c in record { steps = h.steps; reads = h.reads }

-- an argument may begin
pub data Starts : State → Before → Bool → Stack → Type 0 where
  st_first : {k : Stack} → Starts (want first k) first false k
  st_alone : {k : Stack} → Starts (want alone k) alone false k
  st_second : {a : Part} {e : Bool} {k : Stack} → Starts (have first a e k) (behind (head_spine a)) e k
  st_more : {s : Spine} {a : Part} {e : Bool} {k : Stack} → Starts (have (behind s) a e k) (behind (with_argument s a)) e k
  st_making : {s : Spine} {a : Part} {e : Bool} {k : Stack} → Starts (have (making s) a e k) (making (with_argument s a)) e k
  st_placed : {s : Spine} {k : Stack} → Starts (more (making s) k) (making s) false k

pub record Begins (b : Before) (k : Stack) (m : Mark) (w : Sign) (s : State) : Type 0 where
  pub steps : step s m w ≡ argument b k m w
  pub reads : read s m w ≡ argument_leaf b k m w

abbrev pub IsStarter : Mark → Type 0
IsStarter Ident = Unit {0}
IsStarter (Pair s) = Unit {0}
IsStarter Hole = Unit {0}
IsStarter Prop = Unit {0}
IsStarter Universe = Unit {0}
IsStarter Open = Unit {0}
IsStarter _ = ⊥

start_step : {b : Before} {e : Bool} {k : Stack} {s : State} → Starts s b e k → (m : Mark) (w : Sign) → IsStarter m → Begins b k m w s
start_step st_first Ident w p = record { steps = refl; reads = refl }
start_step st_first (Pair x) w p = record { steps = refl; reads = refl }
start_step st_first Hole w p = record { steps = refl; reads = refl }
start_step st_first Prop w p = record { steps = refl; reads = refl }
start_step st_first Universe w p = record { steps = refl; reads = refl }
start_step st_first Open w p = record { steps = refl; reads = refl }
start_step st_alone Ident w p = record { steps = refl; reads = refl }
start_step st_alone (Pair x) w p = record { steps = refl; reads = refl }
start_step st_alone Hole w p = record { steps = refl; reads = refl }
start_step st_alone Prop w p = record { steps = refl; reads = refl }
start_step st_alone Universe w p = record { steps = refl; reads = refl }
start_step st_alone Open w p = record { steps = refl; reads = refl }
start_step st_second Ident w p = record { steps = refl; reads = refl }
start_step st_second (Pair x) w p = record { steps = refl; reads = refl }
start_step st_second Hole w p = record { steps = refl; reads = refl }
start_step st_second Prop w p = record { steps = refl; reads = refl }
start_step st_second Universe w p = record { steps = refl; reads = refl }
start_step st_second Open w p = record { steps = refl; reads = refl }
start_step st_more Ident w p = record { steps = refl; reads = refl }
start_step st_more (Pair x) w p = record { steps = refl; reads = refl }
start_step st_more Hole w p = record { steps = refl; reads = refl }
start_step st_more Prop w p = record { steps = refl; reads = refl }
start_step st_more Universe w p = record { steps = refl; reads = refl }
start_step st_more Open w p = record { steps = refl; reads = refl }
start_step st_making Ident w p = record { steps = refl; reads = refl }
start_step st_making (Pair x) w p = record { steps = refl; reads = refl }
start_step st_making Hole w p = record { steps = refl; reads = refl }
start_step st_making Prop w p = record { steps = refl; reads = refl }
start_step st_making Universe w p = record { steps = refl; reads = refl }
start_step st_making Open w p = record { steps = refl; reads = refl }
start_step st_placed Ident w p = record { steps = refl; reads = refl }
start_step st_placed (Pair x) w p = record { steps = refl; reads = refl }
start_step st_placed Hole w p = record { steps = refl; reads = refl }
start_step st_placed Prop w p = record { steps = refl; reads = refl }
start_step st_placed Universe w p = record { steps = refl; reads = refl }
start_step st_placed Open w p = record { steps = refl; reads = refl }
start_step _ _ w p = absurd p

at_step : {b : Before} {k : Stack} {s : State} → Starts s b false k → (w : Sign) → Begins b k At w s
at_step st_first w = record { steps = refl; reads = refl }
at_step st_alone w = record { steps = refl; reads = refl }
at_step st_second w = record { steps = refl; reads = refl }
at_step st_more w = record { steps = refl; reads = refl }
at_step st_making w = record { steps = refl; reads = refl }
at_step st_placed w = record { steps = refl; reads = refl }

names_lead : {b : Binding} {us rest : List Leaf} {xs : Bounds} → IsNames (binding_depth b) us xs rest → Leads (binders b) us (bares b xs) rest
names_lead (n_one {m = Ident} p) = move refl refl stay
names_lead (n_one {m = Hole} p) = move refl refl stay
names_lead (n_one {m = _} p) = absurd p
names_lead (n_more {m = Ident} h p) = on_to (names_lead h) (move refl refl stay)
names_lead (n_more {m = Hole} h p) = on_to (names_lead h) (move refl refl stay)
names_lead (n_more {m = _} h p) = absurd p

group_names_lead : {b : Binding} {gs : List Group} {n : ℕ} {us rest : List Leaf} {xs : Bounds}
    → IsNames (binding_depth b + 1) us xs rest → Leads (group_opened b gs n) us (group_names b gs n xs) rest
group_names_lead (n_one {m = Ident} p) = move refl refl stay
group_names_lead (n_one {m = Hole} p) = move refl refl stay
group_names_lead (n_one {m = _} p) = absurd p
group_names_lead (n_more {m = Ident} h p) = on_to (group_names_lead h) (move refl refl stay)
group_names_lead (n_more {m = Hole} h p) = on_to (group_names_lead h) (move refl refl stay)
group_names_lead (n_more {m = _} h p) = absurd p

-- a spine was read
pub data Applied : Stack → Spine → Bool → State → Type 0 where
  ap_first : {k : Stack} {h : Part} {e : Bool} → Applied k (head_spine h) e (have first h e k)
  ap_more : {k : Stack} {s : Spine} {a : Part} {e : Bool} → Applied k (with_argument s a) e (have (behind s) a e k)

applied_starts : {k : Stack} {s : Spine} {e : Bool} {t : State} → Applied k s e t → Starts t (behind s) e k
applied_starts ap_first = st_second
applied_starts ap_more = st_more

applied_ready : {k : Stack} {s : Spine} {e : Bool} {t : State} → Applied k s e t → Ready k (spine_part s) t
applied_ready (ap_first {h = h}) = r_have {b = first} {a = h}
applied_ready (ap_more {s = s} {a = a}) = r_have {b = behind s} {a = a}

arrow_step : {k : Stack} {s : Spine} {e : Bool} {t : State} {x : Sign} {ts us : List Leaf} {u : State} → Applied k s e t
    → Leads (want first (right (spine_part s) k)) ts u us → Leads t (leaf Arrow x (depth k) 0 ∷ ts) u us
arrow_step ap_first h = move refl refl h
arrow_step ap_more h = move refl refl h

-- a term, an application, a list of binders was read
pub record Term (k : Stack) (p : Part) (ts rest : List Leaf) : Type 0 where
  pub state : State
  pub ready : Ready k p state
  pub leads : Leads (want first k) ts state rest

pub record App (k : Stack) (e : Bool) (s : Spine) (ts rest : List Leaf) : Type 0 where
  pub state : State
  pub applied : Applied k s e state
  pub leads : Leads (want first k) ts state rest

-- a list of binders was read
pub data Filled : Binding → List Group → ℕ → State → Type 0 where
  fi_bares : {b : Binding} {gs : List Group} {n : ℕ} {xs : Bounds} → gs ≡ bare_groups xs → n ≡ length xs → Filled b gs n (bares b xs)
  fi_groups : {b : Binding} {gs : List Group} {n m : ℕ} → n ≡ m → Filled b gs n (groups b gs m)

pub data Bound_ : Binding → List Group → ℕ → State → Type 0 where
  bo_filled : {b : Binding} {gs : List Group} {n : ℕ} {s : State} → Filled b gs n s → Bound_ b gs n s
  bo_lone : {b : Binding} {xs : Bounds} {t : Part} {s : State} → Ready (lone b xs) t s → Bound_ b (typed xs t.term ∷ []) (length xs) s

pub record Groups (b : Binding) (gs : List Group) (n : ℕ) (from : State) (ts rest : List Leaf) : Type 0 where
  pub state : State
  pub filled : Filled b gs n state
  pub leads : Leads from ts state rest

pub record Bounds_ (b : Binding) (gs : List Group) (n : ℕ) (ts rest : List Leaf) : Type 0 where
  pub state : State
  pub filled : Bound_ b gs n state
  pub leads : Leads (binders b) ts state rest

colon_step : (b : Binding) → IsProducing b → (xs : Bounds) (y : Sign) → step (bares b xs) Colon y ≡ Some (want first (lone b xs))
colon_step (of_product x k) p xs y = refl
colon_step (of_function x k) p xs y = refl
colon_step (of_definition x n) p xs y = absurd p

-- behind `forall` binders comes a comma, behind `fun` binders `=>`
comma_step : {x : Span} {k : Stack} {gs : List Group} {n : ℕ} {s : State} {y : Sign} → Bound_ (of_product x k) gs n s
    → (step s Comma y ≡ Some (want first (body (of_product x k) gs n))) × (read s Comma y ≡ leaf Comma y (depth k) 0)
comma_step (bo_filled (fi_bares e f)) = (cc, refl)
comma_step {x = x} {k = k} {gs = gs} (bo_filled (fi_groups e)) = (ap (λ m. Some (want first (body (of_product x k) gs m))) (sym e), refl)
comma_step {y = y} (bo_lone r) = let h = close_step r Comma y tt in (h.steps, h.reads)

gives_step : {x : Span} {k : Stack} {gs : List Group} {n : ℕ} {s : State} {y : Sign} → Bound_ (of_function x k) gs n s
    → (step s Gives y ≡ Some (want first (body (of_function x k) gs n))) × (read s Gives y ≡ leaf Gives y (depth k) 0)
gives_step (bo_filled (fi_bares e f)) = (cc, refl)
gives_step {x = x} {k = k} {gs = gs} (bo_filled (fi_groups e)) = (ap (λ m. Some (want first (body (of_function x k) gs m))) (sym e), refl)
gives_step {y = y} (bo_lone r) = let h = close_step r Gives y tt in (h.steps, h.reads)

open_step : {b : Binding} {gs : List Group} {n : ℕ} {s : State} {x : Sign} → Filled b gs n s
    → (step s Open x ≡ Some (group_opened b gs n)) × (read s Open x ≡ leaf Open x (binding_depth b + 1) 0)
open_step {b = b} (fi_bares e f) = (cc, refl)
open_step {b = b} {gs = gs} (fi_groups e) = (ap (λ m. Some (group_opened b gs m)) (sym e), refl)

bare_step : {b : Binding} {gs : List Group} {n : ℕ} {s : State} {w : Sign} {rest : List Leaf} (m : Mark) → IsBound m → Filled b gs n s
    → Groups b (gs ++ (untyped (bound m w ∷ []) ∷ [])) (n + 1) s (leaf m w (binding_depth b) 0 ∷ rest) rest
bare_step {b = b} {w = w} Ident p (fi_bares {xs = xs} e f) = record {
  state = bares b (xs ++ (bound Ident w ∷ []));
  filled = fi_bares (ap (λ g. g ++ (untyped (bound Ident w ∷ []) ∷ [])) e ∙ sym (map-append (λ x. untyped (x ∷ [])) xs (bound Ident w ∷ [])))
      (ap (λ i. i + 1) f ∙ sym (length-append xs (bound Ident w ∷ [])));
  leads = move refl refl stay;
}
bare_step {b = b} {w = w} Hole p (fi_bares {xs = xs} e f) = record {
  state = bares b (xs ++ (bound Hole w ∷ []));
  filled = fi_bares (ap (λ g. g ++ (untyped (bound Hole w ∷ []) ∷ [])) e ∙ sym (map-append (λ x. untyped (x ∷ [])) xs (bound Hole w ∷ [])))
      (ap (λ i. i + 1) f ∙ sym (length-append xs (bound Hole w ∷ [])));
  leads = move refl refl stay;
}
bare_step {b = b} {gs = gs} {w = w} Ident p (fi_groups {m = i} e) = record {
  state = groups b (gs ++ (untyped (bound Ident w ∷ []) ∷ [])) (i + 1);
  filled = fi_groups (ap (λ j. j + 1) e);
  leads = move refl refl stay;
}
bare_step {b = b} {gs = gs} {w = w} Hole p (fi_groups {m = i} e) = record {
  state = groups b (gs ++ (untyped (bound Hole w ∷ []) ∷ [])) (i + 1);
  filled = fi_groups (ap (λ j. j + 1) e);
  leads = move refl refl stay;
}
bare_step _ p h = absurd p

late_lead : {s : State} {b : Before} {k : Stack} {x w : Sign} {rest : List Leaf} (m : Mark) → IsName m → Starts s b true k
    → Leads s (leaf At x (depth k) 0 ∷ (late m w (depth k) (count b) ∷ rest)) (have b (bare_part x.place (word w)) false k) rest
late_lead Ident p st_second = move refl refl (move refl refl stay)
late_lead Ident p st_more = move refl refl (move refl refl stay)
late_lead Ident p st_making = move refl refl (move refl refl stay)
late_lead (Pair t) p st_second = move refl refl (move refl refl stay)
late_lead (Pair t) p st_more = move refl refl (move refl refl stay)
late_lead (Pair t) p st_making = move refl refl (move refl refl stay)
late_lead _ p h = absurd p

name_lead : {s : State} {b : Before} {e : Bool} {k : Stack} {w : Sign} {rest : List Leaf} (m : Mark) → IsName m → Starts s b e k
    → Leads s (leaf m w (depth k) (count b) ∷ rest) (have b (name_part (word w)) false k) rest
name_lead {w = w} Ident p h = let q = start_step h Ident w tt in move q.steps q.reads stay
name_lead {w = w} (Pair t) p h = let q = start_step h (Pair t) w tt in move q.steps q.reads stay
name_lead _ p h = absurd p

bare_lead : {b : Before} {k : Stack} {x : Span} {w : Sign} {rest : List Leaf} (m : Mark) → IsName m
    → Leads (bare_begun b x k) (leaf m w (depth k) 0 ∷ rest) (have b (bare_part x (word w)) false k) rest
bare_lead Ident p = move refl refl stay
bare_lead (Pair t) p = move refl refl stay
bare_lead _ p = absurd p

projected_lead : {b : Before} {a : Part} {e : Bool} {k : Stack} {x w z : Sign} {rest : List Leaf} (m : Mark) → IsName m
    → Leads (have b a e k) (leaf Project x (depth k) 0 ∷ (leaf m w (depth k) 0 ∷ (leaf Close z (depth k) 0 ∷ rest)))
    (have b (projected_part a w.whole z.place) false k) rest
projected_lead Ident p = move refl refl (move refl refl (move refl refl stay))
projected_lead (Pair t) p = move refl refl (move refl refl (move refl refl stay))
projected_lead _ p = absurd p

-- behind a term, a closing token
pub close_lead : {k : Stack} {p : Part} {s t u : State} {z : Sign} {ts us : List Leaf} (m : Mark) → IsCloser m → Ready k p s
    → closed k m p z ≡ Some t → Leads t ts u us → Leads s (leaf m z (closing k) 0 ∷ ts) u us
close_lead {z = z} m c r e h = let q = close_step r m z c in move (q.steps ∙ e) q.reads h

-- a typed group, whose type was read
typed_lead : (b : Binding) (gs : List Group) (n : ℕ) {y z : Sign} {xs : Bounds} {t : Part} {us vs rest : List Leaf}
    → IsNames (binding_depth b + 1) us xs (leaf Colon y (binding_depth b + 1) 0 ∷ vs)
    → Term (group_type b gs n xs) t vs (leaf Close z (binding_depth b + 1) 0 ∷ rest)
    → Leads (group_opened b gs n) us (groups b (gs ++ (typed xs t.term ∷ [])) (n + length xs)) rest
typed_lead b gs n h t = on_to (group_names_lead h) (move refl refl (on_to t.leads (close_lead Close tt t.ready refl stay)))

-- equality of numbers, to match on
pub data Is (n : ℕ) : ℕ → Type 0 where
  it_is : Is n n

mutual
  pub term : {d : ℕ} {ts rest : List Leaf} {p : Part} → IsTerm d ts p rest → (k : Stack) → Is (depth k) d → Term k p ts rest
  term (t_app h) k it_is = let a = app h k it_is in record { state = a.state; ready = applied_ready a.applied; leads = a.leads }
  term (t_arrow {s = s} h i) k it_is =
      let a = app h k it_is in
      let b = term i (right (spine_part s) k) it_is in
      record { state = b.state; ready = r_right b.ready; leads = on_to a.leads (arrow_step a.applied b.leads) }
  term (t_forall {n = n} {x = x} {y = y} {gs = gs} h i) k it_is =
      let a = binders_lead h (of_product x.place k) tt it_is in
      let b = term i (body (of_product x.place k) gs n) it_is in
      let c = comma_step {y = y} a.filled in
      record { state = b.state; ready = r_product b.ready; leads = move refl refl (on_to a.leads (move c.0 c.1 b.leads)) }
  term (t_fun {n = n} {x = x} {y = y} {gs = gs} h i) k it_is =
      let a = binders_lead h (of_function x.place k) tt it_is in
      let b = term i (body (of_function x.place k) gs n) it_is in
      let c = gives_step {y = y} a.filled in
      record { state = b.state; ready = r_function b.ready; leads = move refl refl (on_to a.leads (move c.0 c.1 b.leads)) }

  binders_lead : {d : ℕ} {ts rest : List Leaf} {gs : List Group} {n : ℕ}
      → IsBinders d ts gs n rest → (b : Binding) → IsProducing b → Is (binding_depth b) d → Bounds_ b gs n ts rest
  binders_lead (b_groups h) b p it_is = let g = groups_lead h b it_is in record { state = g.state; filled = bo_filled g.filled; leads = g.leads }
  binders_lead (b_typed {y = y} {xs = xs} h i) b p it_is =
      let t = term i (lone b xs) it_is in
      record { state = t.state; filled = bo_lone t.ready; leads = on_to (names_lead h) (move (colon_step b p xs y) refl t.leads) }

  groups_lead : {d : ℕ} {ts rest : List Leaf} {gs : List Group} {n : ℕ}
      → IsGroups d ts gs n rest → (b : Binding) → Is (binding_depth b) d → Groups b gs n (binders b) ts rest
  groups_lead (g_one h) b e = first_group h b e it_is
  groups_lead (g_more h i) b e =
      let g = groups_lead h b e in
      let j = group_lead i b e g.filled in
      record { state = j.state; filled = j.filled; leads = on_to g.leads j.leads }

  first_group : {d c : ℕ} {ts rest : List Leaf} {g : Group} {n : ℕ}
      → IsGroup d c ts g n rest → (b : Binding) → Is (binding_depth b) d → Is 0 c → Groups b (g ∷ []) n (binders b) ts rest
  first_group (g_bare {m = Ident} {w = w} p) b it_is it_is =
      record { state = bares b (bound Ident w ∷ []); filled = fi_bares refl refl; leads = move refl refl stay }
  first_group (g_bare {m = Hole} {w = w} p) b it_is it_is =
      record { state = bares b (bound Hole w ∷ []); filled = fi_bares refl refl; leads = move refl refl stay }
  first_group (g_bare {m = _} p) b e f = absurd p
  first_group (g_typed {xs = xs} {t = t} h i) b it_is it_is = record {
    state = groups b (typed xs t.term ∷ []) (0 + length xs);
    filled = fi_groups (sym (zero-add (length xs)));
    leads = move refl refl (typed_lead b [] 0 h (term i (group_type b [] 0 xs) it_is));
  }

  pub group_lead : {d n : ℕ} {ts rest : List Leaf} {g : Group} {c : ℕ}
      → IsGroup d n ts g c rest → (b : Binding) → Is (binding_depth b) d → {gs : List Group} {s : State} → Filled b gs n s
      → Groups b (gs ++ (g ∷ [])) (n + c) s ts rest
  group_lead (g_bare {m = m} p) b it_is f = bare_step m p f
  group_lead (g_typed {n = n} {x = x} {xs = xs} {t = t} h i) b it_is {gs = gs} f =
      let o = open_step {x = x} f in
      record {
        state = groups b (gs ++ (typed xs t.term ∷ [])) (n + length xs);
        filled = fi_groups refl;
        leads = move o.0 o.1 (typed_lead b gs n h (term i (group_type b gs n xs) it_is));
      }

  app : {d : ℕ} {e : Bool} {ts rest : List Leaf} {s : Spine} → IsApp d e ts s rest → (k : Stack) → Is (depth k) d → App k e s ts rest
  app (p_head {e = e} {h = h} i) k f = record { state = have first h e k; applied = ap_first; leads = arg i k st_first f it_is }
  app (p_more {f = g} {s = s} {a = a} h i) k f =
      let j = app h k f in
      record { state = have (behind s) a g k; applied = ap_more; leads = on_to j.leads (arg i k (applied_starts j.applied) f it_is) }

  pub arg : {d n : ℕ} {e f : Bool} {ts rest : List Leaf} {a : Part} → IsArg d e n ts a f rest
      → (k : Stack) {b : Before} {s : State} → Starts s b e k → Is (depth k) d → Is (count b) n → Leads s ts (have b a f k) rest
  arg (r_atom h) k st i j = atom h k st i j
  arg (r_project {m = m} h p) k st it_is j = on_to (arg h k st it_is j) (projected_lead m p)

  atom : {d n : ℕ} {e f : Bool} {ts rest : List Leaf} {a : Part} → IsAtom d e n ts a f rest
      → (k : Stack) {b : Before} {s : State} → Starts s b e k → Is (depth k) d → Is (count b) n → Leads s ts (have b a f k) rest
  atom (a_name {m = m} p) k st it_is it_is = name_lead m p st
  atom (a_bare {m = m} {x = x} p) k st it_is it_is = let q = at_step st x in move q.steps q.reads (bare_lead m p)
  atom (a_late {m = m} p) k st it_is it_is = late_lead m p st
  atom (a_hole {w = w}) k st it_is it_is = let q = start_step st Hole w tt in move q.steps q.reads stay
  atom (a_prop {w = w}) k st it_is it_is = let q = start_step st Prop w tt in move q.steps q.reads stay
  atom (a_type {w = w}) k st it_is it_is = let q = start_step st Universe w tt in move q.steps q.reads stay
  atom (a_level {w = w}) k st it_is it_is =
      let q = start_step st Universe w tt in
      move q.steps q.reads (move refl refl (move refl refl (move refl refl (move refl refl stay))))
  atom (a_bracket {x = x} h) k {b = b} st it_is it_is =
      let q = start_step st Open x tt in
      let t = term h (inside b x.place k) it_is in
      move q.steps q.reads (on_to t.leads (close_lead Close tt t.ready refl stay))
  atom (a_cast {x = x} {t = t} h i) k {b = b} st it_is it_is =
      let q = start_step st Open x tt in
      let r = term h (inside b x.place k) it_is in
      let v = term i (casting b x.place t k) it_is in
      move q.steps q.reads (on_to r.leads (close_lead Colon tt r.ready refl (on_to v.leads (close_lead Close tt v.ready refl stay))))
