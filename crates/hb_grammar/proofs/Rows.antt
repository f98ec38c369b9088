-- Steps outside arguments keep what the states say.
use Rattle.std.proofs.Common.{◌≡◌, ℕ, ◌+◌, Bool, true, false, List, [], ◌∷◌, ◌++◌, length, refl, ap, ◌∙◌}
use Rattle.hb_base.specs.declared.span.Span.{Span}
use Rattle.hb_raw.specs.declared.word.Word.{Word}
use Rattle.hb_raw.specs.Preterm.{Group, untyped}
use Rattle.hb_grammar.specs.declared.mark.Mark.{Mark}
use Rattle.hb_grammar.specs.declared.mark.Mark.TheVariants.{Ident, Pair, Prop, Universe, Hole, Number, Open, Brace, Unbrace, Colon, Becomes, Gives, Comma, At, Project, End}
use Rattle.hb_grammar.specs.Leaf.{Sign, Leaf, leaf, late, IsBound, bound}
use Rattle.hb_grammar.specs.Part.{Part, level_part}
use Rattle.hb_grammar.specs.Grammar.{Bounds, IsNames, n_one, n_more, b_groups, IsGroups, g_one, g_more, g_bare, IsArg, r_atom, r_project, a_bare, a_late, a_type, a_level, IsParameters, no_parameters, parameters, unstated}
use Rattle.hb_grammar.specs.Machine.{Before, first, behind, alone, making, count, Stack, Binding, of_product, of_function, of_definition, depth, binding_depth, after_carrier, bare_named, after_universe_at, projection_named, bare_groups, first_binder, bound_to, after_bares, after_groups, after_group_open, after_group_names, argument_or_close_leaf, universe_at_leaf, binding_leaf}
use Rattle.hb_grammar.proofs.Holds.{Ahead, ah_first, ah_making, fin_built, SoFar, sf_none, sf_some, Listed, li_none, li_some, Opened, o_lone, o_group, o_product, o_function, o_definition_type, o_definition, Binds, bi_definition, he_want, he_have, he_bares, he_groups, he_group_opened, he_group_names, Then}
use Rattle.std.proofs.lemmas.List.{map-append, length-append}
use Rattle.hb_grammar.proofs.Closing.{closed_holds}
use Rattle.hb_grammar.proofs.Sound.{argument_holds, further}

-- leaves one behind the other
pub on : {a : Leaf} {us vs ws : List Leaf} → us ≡ a ∷ vs → vs ≡ ws → us ≡ a ∷ ws
on {a = a} e f = e ∙ ap (λ r. a ∷ r) f

-- the carrier of a builder
pub after_carrier_holds : {b : Before} {k : Stack} {all vs us : List Leaf} (m : Mark) (w : Sign)
    → Opened all k vs → Ahead k b false vs (argument_or_close_leaf b k m w ∷ us) → Then all (after_carrier b k m w) us
after_carrier_holds {b = making s} {k = k} End w o (ah_making i) = closed_holds k End o (fin_built i)
after_carrier_holds {b = making s} Ident w o h = argument_holds Ident w o h (λ q. refl)
after_carrier_holds {b = making s} (Pair t) w o h = argument_holds (Pair t) w o h (λ q. refl)
after_carrier_holds {b = making s} At w o h = argument_holds At w o h (λ q. refl)
after_carrier_holds {b = making s} Hole w o h = argument_holds Hole w o h (λ q. refl)
after_carrier_holds {b = making s} Prop w o h = argument_holds Prop w o h (λ q. refl)
after_carrier_holds {b = making s} Universe w o h = argument_holds Universe w o h (λ q. refl)
after_carrier_holds {b = making s} Open w o h = argument_holds Open w o h (λ q. refl)
after_carrier_holds {b = making s} _ w o h = tt
after_carrier_holds {b = first} m w o h = tt
after_carrier_holds {b = behind s} m w o h = tt
after_carrier_holds {b = alone} m w o h = tt

-- behind `@`
pub bare_holds : {b : Before} {k : Stack} {x w : Sign} {all vs us : List Leaf} (m : Mark)
    → Opened all k vs → Ahead k b false vs (leaf At x (depth k) (count b) ∷ (leaf m w (depth k) 0 ∷ us))
    → Then all (bare_named b x.place k m w) us
bare_holds Ident o h = he_have o h (r_atom (a_bare tt))
bare_holds (Pair s) o h = he_have o h (r_atom (a_bare tt))
bare_holds _ o h = tt

late_holds : {b : Before} {k : Stack} {x w : Sign} {all vs us : List Leaf} (m : Mark)
    → Opened all k vs → Ahead k b true vs (leaf At x (depth k) 0 ∷ (late m w (depth k) (count b) ∷ us))
    → Then all (bare_named b x.place k m w) us
late_holds Ident o h = he_have o h (r_atom (a_late tt))
late_holds (Pair s) o h = he_have o h (r_atom (a_late tt))
late_holds _ o h = tt

level_read : {d n : ℕ} {f : Bool} {a : Part} {x y c z : Sign} {ts rest : List Leaf}
    → IsArg d f n ts a true (leaf At x d 0 ∷ (leaf Brace y d 0 ∷ (leaf Number c d 0 ∷ (leaf Unbrace z d 0 ∷ rest))))
    → IsArg d f n ts (level_part a c.value z.place) false rest
level_read (r_atom a_type) = r_atom a_level

pub universe_holds : {k : Stack} {a : Part} {x : Sign} {f : Bool} {all vs ts us : List Leaf} (b : Before) (m : Mark) (w : Sign)
    → Opened all k vs → Ahead k b f vs ts
    → IsArg (depth k) f (count b) ts a true (leaf At x (depth k) 0 ∷ (universe_at_leaf b a k m w ∷ us))
    → Then all (after_universe_at b a x.place k m w) us
universe_holds b Brace w o h i = λ n ws e. λ z rest g. he_have o h (level_read (rw (on e g) at i))
universe_holds alone _ w o h i = tt
universe_holds first m w o h i = late_holds m o (further (λ q. cc) h i)
universe_holds (behind s) m w o h i = late_holds m o (further (λ q. cc) h i)
universe_holds (making s) m w o h i = late_holds m o (further (λ q. cc) h i)

pub projecting_holds : {b : Before} {k : Stack} {a : Part} {x w : Sign} {e f : Bool} {all vs ts us : List Leaf} (m : Mark)
    → Opened all k vs → Ahead k b f vs ts
    → IsArg (depth k) f (count b) ts a e (leaf Project x (depth k) 0 ∷ (leaf m w (depth k) 0 ∷ us))
    → Then all (projection_named b a k m w) us
projecting_holds Ident o h i = λ z rest g. he_have o h (r_project (rw g at i) tt)
projecting_holds (Pair s) o h i = λ z rest g. he_have o h (r_project (rw g at i) tt)
projecting_holds _ o h i = tt

-- binders
pub first_holds : {b : Binding} {all us : List Leaf} (m : Mark) (w : Sign)
    → Binds all b (binding_leaf b m w ∷ us) → Then all (first_binder b m w) us
first_holds Ident w o = he_bares o (n_one tt)
first_holds Hole w o = he_bares o (n_one tt)
first_holds Open w o = he_group_opened o sf_none
first_holds _ w o = tt

bare_listed : {d : ℕ} {ts us : List Leaf} {xs : Bounds} → IsNames d ts xs us → IsGroups d ts (bare_groups xs) (length xs) us
bare_listed (n_one p) = g_one (g_bare p)
bare_listed {d = d} (n_more {m = m} {w = w} {ts = ts} {rest = rest} {xs = xs} h p) =
    let one : Bounds = bound m w ∷ [] in
    rw (map-append (λ x. untyped (x ∷ [])) xs one) (rw (length-append xs one) (g_more (bare_listed h) (g_bare p)))

to_parameters : {x : Span} {n : Word} {c : ℕ} {gs : List Group} {ts us : List Leaf} → Listed (of_definition x n) ts gs c us → IsParameters ts gs c us
to_parameters li_none = no_parameters
to_parameters (li_some g) = parameters g

bound_holds : {w : Sign} {gs : List Group} {n : ℕ} {all us rest : List Leaf} (b : Binding) (m : Mark)
    → Binds all b us → Listed b us gs n (leaf m w (binding_depth b) 0 ∷ rest) → Then all (bound_to b gs n m) rest
bound_holds (of_product x k) Comma o (li_some g) = he_want (o_product o (b_groups g)) (ah_first tt)
bound_holds (of_function x k) Gives o (li_some g) = he_want (o_function o (b_groups g)) (ah_first tt)
bound_holds (of_definition x c) Colon bi_definition l = he_want (o_definition_type (to_parameters l)) (ah_first tt)
bound_holds (of_definition x c) Becomes bi_definition l = he_want (o_definition (to_parameters l) unstated) (ah_first tt)
bound_holds (of_product x k) _ o l = tt
bound_holds (of_function x k) _ o l = tt
bound_holds (of_definition x k) _ o l = tt

pub bares_holds : {xs : Bounds} {all vs us : List Leaf} (b : Binding) (m : Mark) (w : Sign)
    → Binds all b vs → IsNames (binding_depth b) vs xs (binding_leaf b m w ∷ us) → Then all (after_bares b xs m w) us
bares_holds b Ident w o h = he_bares o (n_more h tt)
bares_holds b Hole w o h = he_bares o (n_more h tt)
bares_holds b Open w o h = he_group_opened o (sf_some (bare_listed h))
bares_holds (of_product x k) Colon w o h = he_want (o_lone o tt h) (ah_first tt)
bares_holds (of_function x k) Colon w o h = he_want (o_lone o tt h) (ah_first tt)
bares_holds b m w o h = bound_holds b m o (li_some (bare_listed h))

so_far : {b : Binding} {n : ℕ} {gs : List Group} {ts us : List Leaf} → Listed b ts gs n us → SoFar (binding_depth b) ts gs n us
so_far li_none = sf_none
so_far (li_some g) = sf_some g

bare_more : {b : Binding} {n : ℕ} {m : Mark} {w : Sign} {gs : List Group} {ts rest : List Leaf} → IsBound m
    → Listed b ts gs n (leaf m w (binding_depth b) 0 ∷ rest)
    → Listed b ts (gs ++ (untyped (bound m w ∷ []) ∷ [])) (n + 1) rest
bare_more p li_none = li_some (g_one (g_bare p))
bare_more p (li_some g) = li_some (g_more g (g_bare p))

pub groups_holds : (m : Mark) (w : Sign) {b : Binding} {gs : List Group} {n : ℕ} {all vs us : List Leaf}
    → Binds all b vs → Listed b vs gs n (binding_leaf b m w ∷ us) → Then all (after_groups b gs n m w) us
groups_holds Ident w o l = he_groups o (bare_more tt l)
groups_holds Hole w o l = he_groups o (bare_more tt l)
groups_holds Open w o l = he_group_opened o (so_far l)
groups_holds m w {b = b} o l = bound_holds b m o l

pub group_open_holds : {b : Binding} {x w : Sign} {gs : List Group} {n : ℕ} {all vs us : List Leaf} (m : Mark)
    → Binds all b vs
    → SoFar (binding_depth b) vs gs n (leaf Open x (binding_depth b + 1) 0 ∷ (leaf m w (binding_depth b + 1) 0 ∷ us))
    → Then all (after_group_open b gs n m w) us
group_open_holds Ident o l = he_group_names o l (n_one tt)
group_open_holds Hole o l = he_group_names o l (n_one tt)
group_open_holds _ o l = tt

pub group_names_hold : {b : Binding} {x w : Sign} {gs : List Group} {n : ℕ} {xs : Bounds} {all vs ws us : List Leaf} (m : Mark)
    → Binds all b vs → SoFar (binding_depth b) vs gs n (leaf Open x (binding_depth b + 1) 0 ∷ ws)
    → IsNames (binding_depth b + 1) ws xs (leaf m w (binding_depth b + 1) 0 ∷ us)
    → Then all (after_group_names b gs n xs m w) us
group_names_hold Ident o l h = he_group_names o l (n_more h tt)
group_names_hold Hole o l h = he_group_names o l (n_more h tt)
group_names_hold Colon o l h = he_want (o_group o l h) (ah_first tt)
group_names_hold _ o l h = tt
