-- Coercions, one after another.
use Rattle.std.proofs.Common.{◌≡◌, ◌∙◌, refl, sym, ap, ℕ, suc, ◌+◌, ◌<◌, Bool, true, false, cond, List, [], ◌∷◌, ◌++◌, length, drop, get_or, append_assoc, arith, codes}
use Rattle.std.proofs.lemmas.List.{drop_more, get_or-map, map-append}
use Rattle.hb_sets.specs.Set.{Set, empty}
use Rattle.hb_tree.specs.Tree.{pi}
use Rattle.hb_calculus.specs.Declarations.{Decl, a_definition}
use Rattle.hb_calculus.specs.Telescopes.{former}
use Rattle.hb_order.specs.Heirs.{mix}
use Rattle.hb_hier.specs.Hierarchy.{Hierarchy, Grouped, ungrouped, sets}
use Rattle.hb_tables.specs.Maps.{Maps}
use Rattle.hb_paths.specs.Packs.{Shape, coercion_body}
use Rattle.hb_generated.specs.State.{Made, coercion, decls}
use Rattle.hb_generated.specs.Names.{between}
use Rattle.hb_generated.specs.Reading.{is_inside, shape_of}
use Rattle.hb_generated.specs.Generating.{coercions}
use Rattle.hb_pack.specs.Packing.{one_coercion}

-- the set of a declared structure
pub mix_at : (h : Hierarchy) (t : ℕ) → t < length h.structures → mix (sets h) t ≡ (get_or h.structures t ungrouped).mixins
mix_at h t lt = get_or-map (λ (g : Grouped). g.mixins) h.structures t ungrouped empty lt

pub coercion_none : (N : List (List ℕ)) (h : Hierarchy) (T : Maps) (n : ℕ) (S : Shape) (x : Set) (t : ℕ) (g : Grouped) (m : Set) → m ≡ g.mixins → is_inside m x ≡ false → [] ≡ one_coercion N h T n S x t g
coercion_none N h T n S x t g m is e =
    sym (ap (λ b. cond b (a_definition (between N n (codes "_to_") g.name.0) (pi (former S.pack) (former (shape_of T (sets h) t).pack)) (coercion_body S (shape_of T (sets h) t)) ∷ []) []) (ap (λ y. is_inside y x) (sym is) ∙ e))

pub coercion_made : (N : List (List ℕ)) (h : Hierarchy) (T : Maps) (n : ℕ) (S : Shape) (x : Set) (t : ℕ) (g : Grouped) (m : Set) (d : Decl) (own : ℕ) (to : Shape) → m ≡ g.mixins → is_inside m x ≡ true → between N n (codes "_to_") g.name.0 ≡ own → to ≡ shape_of T (sets h) t → d ≡ a_definition own (pi (former S.pack) (former to.pack)) (coercion_body S to) → d ∷ [] ≡ one_coercion N h T n S x t g
coercion_made N h T n S x t g m d own to is e is_name is_to is_decl =
    ap (λ y. y ∷ []) is_decl
    ∙ ap (λ (u : Shape). a_definition own (pi (former S.pack) (former u.pack)) (coercion_body S u) ∷ []) is_to
    ∙ ap (λ k. a_definition k (pi (former S.pack) (former (shape_of T (sets h) t).pack)) (coercion_body S (shape_of T (sets h) t)) ∷ []) (sym is_name)
    ∙ sym (ap (λ b. cond b (a_definition (between N n (codes "_to_") g.name.0) (pi (former S.pack) (former (shape_of T (sets h) t).pack)) (coercion_body S (shape_of T (sets h) t)) ∷ []) []) (ap (λ y. is_inside y x) (sym is) ∙ e))

decls_cond : (b : Bool) (f : Made) → decls (cond b (f ∷ []) []) ≡ cond b (f.1 ∷ []) []
decls_cond true f = refl
decls_cond false f = refl

-- what is done, and what the structures from number t on give, are the whole
abbrev pub IsRest : List (List ℕ) → Hierarchy → Maps → ℕ → ℕ → Shape → Set → List Decl → ℕ → Type 0
IsRest N h T s n S x done t = done ++ decls (coercions N h T s n S x t (drop t h.structures)) ≡ decls (coercions N h T s n S x 0 h.structures)

pub coercions_turn : (N : List (List ℕ)) (h : Hierarchy) (T : Maps) (s n : ℕ) (S : Shape) (x : Set) (done : List Decl) (t : ℕ) (new : List Decl) → t < length h.structures → new ≡ one_coercion N h T n S x t (get_or h.structures t ungrouped) → IsRest N h T s n S x done t → IsRest N h T s n S x (done ++ new) (t + 1)
coercions_turn N h T s n S x done t new lt e is =
    let g = get_or h.structures t ungrouped in
    let made : Made = (coercion s t, a_definition (between N n (codes "_to_") g.name.0) (pi (former S.pack) (former (shape_of T (sets h) t).pack)) (coercion_body S (shape_of T (sets h) t))) in
    let rest = coercions N h T s n S x (t + 1) (drop (t + 1) h.structures) in
    let next : suc t ≡ t + 1 = omega arith in
    append_assoc done new (decls rest)
    ∙ ap (λ l. done ++ (l ++ decls rest)) (e ∙ sym (decls_cond (is_inside g.mixins x) made))
    ∙ ap (λ l. done ++ l) (sym (map-append (λ (d : Made). d.1) (cond (is_inside g.mixins x) (made ∷ []) []) rest))
    ∙ ap (λ k. done ++ decls (cond (is_inside g.mixins x) (made ∷ []) [] ++ coercions N h T s n S x k (drop (t + 1) h.structures))) (sym next)
    ∙ ap (λ l. done ++ decls (coercions N h T s n S x t l)) (sym (drop_more h.structures t ungrouped lt))
    ∙ is
