-- Instances at carriers, one after another.
use Rattle.std.proofs.Common.{◌≡◌, ◌∙◌, refl, sym, ap, ℕ, suc, ◌+◌, ◌<◌, Bool, true, false, true≢false, cond, List, [], ◌∷◌, ◌++◌, length, map, drop, get_or, Option, slice_get, is_some, append_assoc, arith, codes}
use Rattle.std.proofs.lemmas.List.{drop_more, map-append}
use Rattle.hb_sets.specs.Set.{Set, AllBelow}
use Rattle.hb_order.specs.Heirs.{mix}
use Rattle.hb_order.specs.Givings.{Giving}
use Rattle.hb_order.specs.Allowed.{AllAllowed}
use Rattle.hb_order.specs.Needs.{Takes, AskedDeclared}
use Rattle.hb_tree.specs.Tree.{Tree}
use Rattle.hb_tree.specs.declared.leaves.ConstId.{ConstId}
use Rattle.hb_calculus.specs.Declarations.{Decl, a_definition}
use Rattle.hb_calculus.specs.Telescopes.{former, products, variables}
use Rattle.hb_givings.specs.Givings.{givings_at}
use Rattle.hb_hier.specs.Hierarchy.{Hierarchy, Grouped, MOST, ungrouped, sets}
use Rattle.hb_tables.specs.Maps.{Maps, entry_of}
use Rattle.hb_paths.specs.Packs.{Shape, packed}
use Rattle.hb_paths.specs.Carriers.{functions, asked_type, instance_at}
use Rattle.hb_generated.specs.State.{Made, entry, decls}
use Rattle.hb_generated.specs.Names.{between, name_at}
use Rattle.hb_generated.specs.Reading.{needs_of, takes_of, shape_of, coercion_in, value_in, condition_at, carrier_at, value_at}
use Rattle.hb_generated.specs.Generating.{instance_of, entries_from, entries_at, entries_of}
use Rattle.hb_generated.proofs.MeetLemmas.{takes-is, is-takes}
use Rattle.hb_pack.specs.Packing.{one_entry}

-- the test of a set
pub takes_same : (h : List Set) (gs : List Giving) → AllAllowed h → AskedDeclared h gs → (x : Set) → AllBelow x MOST → (b : Bool) → (b ≡ true → Takes h gs x) → (Takes h gs x → b ≡ true) → takes_of h gs x ≡ b
takes_same h gs all declared x below b gives back = by (takes_of h gs x) refl b gives back
  where
    by : (a : Bool) → takes_of h gs x ≡ a → (b : Bool) → (b ≡ true → Takes h gs x) → (Takes h gs x → b ≡ true) → takes_of h gs x ≡ b
    by a e true gives back = is-takes h gs all declared x below (gives refl)
    by true e false gives back = absurd (true≢false (sym (back (takes-is h gs all declared x below e))))
    by false e false gives back = e

-- the instance of one structure
pub entry_none : (N : List (List ℕ)) (E : List Decl) (T : Maps) (h : Hierarchy) (k : ConstId) (t : ℕ) (g : Grouped) → is_some (entry_of T (record { 0 = t }) k) ≡ false → takes_of (sets h) (givings_at h.givings k) g.mixins ≡ false → [] ≡ one_entry N E T h k t g
entry_none N E T h k t g none never = rw (none, never) refl

pub entry_some : (N : List (List ℕ)) (E : List Decl) (T : Maps) (h : Hierarchy) (k : ConstId) (t : ℕ) (g : Grouped) (d : Decl) → is_some (entry_of T (record { 0 = t }) k) ≡ false → takes_of (sets h) (givings_at h.givings k) g.mixins ≡ true → d ≡ instance_of N E T h k t g.name.0 → d ∷ [] ≡ one_entry N E T h k t g
entry_some N E T h k t g d none takes is = rw (none, takes) (ap (λ x. x ∷ []) is)

pub instance_made : (N : List (List ℕ)) (E : List Decl) (T : Maps) (h : Hierarchy) (k : ConstId) (t n own before pack : ℕ) (us : List (Option ℕ)) (context : List Tree) (ty value body : Tree)
    → us ≡ needs_of (sets h) (givings_at h.givings k) (mix (sets h) t) → before ≡ name_at (slice_get E k.decl) → between N before (codes "_is_") n ≡ own → context ≡ map (asked_type (shape_of T (sets h))) us → pack ≡ (shape_of T (sets h) t).pack
    → ty ≡ products context (former pack) → value ≡ instance_at (shape_of T (sets h)) (coercion_in T) k (value_in T k) (condition_at h k) (shape_of T (sets h) t) us (variables (length us) 0) → body ≡ functions context value
    → a_definition own ty body ≡ instance_of N E T h k t n
instance_made N E T h k t n own before pack us context ty value body is_us is_before is_own is_context is_pack is_ty is_value is_body =
    ap (λ x. a_definition x ty body) (sym is_own ∙ ap (λ b. between N b (codes "_is_") n) is_before)
    ∙ ap (λ x. a_definition (between N (name_at (slice_get E k.decl)) (codes "_is_") n) x body) (is_ty ∙ ap (λ c. products c (former pack)) is_context ∙ ap (λ p. products (map (asked_type (shape_of T (sets h))) us) (former p)) is_pack)
    ∙ ap (λ x. a_definition (between N (name_at (slice_get E k.decl)) (codes "_is_") n) (products (map (asked_type (shape_of T (sets h))) us) (former (shape_of T (sets h) t).pack)) x)
    (is_body ∙ ap (λ c. functions c value) is_context ∙ ap (functions (map (asked_type (shape_of T (sets h))) us)) is_value)
    ∙ ap (λ (vs : List (Option ℕ)). a_definition (between N (name_at (slice_get E k.decl)) (codes "_is_") n) (products (map (asked_type (shape_of T (sets h))) vs) (former (shape_of T (sets h) t).pack))
    (functions (map (asked_type (shape_of T (sets h))) vs) (instance_at (shape_of T (sets h)) (coercion_in T) k (value_in T k) (condition_at h k) (shape_of T (sets h) t) vs (variables (length vs) 0)))) is_us

-- the value at the variables
pub value_packed : (T : Maps) (h : Hierarchy) (k : ConstId) (S : Shape) (us : List (Option ℕ)) (args values : List Tree) (own t : Tree)
    → args ≡ variables (length us) 0 → own ≡ carrier_at T h k us args → values ≡ map (λ m. value_at T h k us args m) S.mixins → ((v : ℕ → Tree) → values ≡ map v S.mixins → t ≡ packed S own v)
    → t ≡ instance_at (shape_of T (sets h)) (coercion_in T) k (value_in T k) (condition_at h k) S us (variables (length us) 0)
value_packed T h k S us args values own t is_args is_own is_values is_t =
    is_t (λ m. value_at T h k us args m) is_values
    ∙ ap (λ x. packed S x (λ m. value_at T h k us args m)) is_own
    ∙ ap (λ ts. packed S (carrier_at T h k us ts) (λ m. value_at T h k us ts m)) is_args

decls_entry : (e b : Bool) (f : Made) → decls (cond e [] (cond b (f ∷ []) [])) ≡ cond e [] (cond b (f.1 ∷ []) [])
decls_entry true b f = refl
decls_entry false true f = refl
decls_entry false false f = refl

-- what is done, and what the structures from number t on give, are the whole
abbrev pub IsRest : List (List ℕ) → List Decl → Maps → Hierarchy → ConstId → List Decl → List Decl → ℕ → Type 0
IsRest N E T h k before done t = done ++ decls (entries_from N E T h k t (drop t h.structures)) ≡ before ++ decls (entries_at N E T h k)

pub entries_turn : (N : List (List ℕ)) (E : List Decl) (T : Maps) (h : Hierarchy) (k : ConstId) (before done : List Decl) (t : ℕ) (new : List Decl) → t < length h.structures → new ≡ one_entry N E T h k t (get_or h.structures t ungrouped) → IsRest N E T h k before done t → IsRest N E T h k before (done ++ new) (t + 1)
entries_turn N E T h k before done t new lt e is =
    let g = get_or h.structures t ungrouped in
    let made : Made = (entry t k, instance_of N E T h k t g.name.0) in
    let had = is_some (entry_of T (record { 0 = t }) k) in
    let takes = takes_of (sets h) (givings_at h.givings k) g.mixins in
    let rest = entries_from N E T h k (t + 1) (drop (t + 1) h.structures) in
    let next : suc t ≡ t + 1 = omega arith in
    append_assoc done new (decls rest)
    ∙ ap (λ l. done ++ (l ++ decls rest)) (e ∙ sym (decls_entry had takes made))
    ∙ ap (λ l. done ++ l) (sym (map-append (λ (d : Made). d.1) (cond had [] (cond takes (made ∷ []) [])) rest))
    ∙ ap (λ j. done ++ decls (cond had [] (cond takes (made ∷ []) []) ++ entries_from N E T h k j (drop (t + 1) h.structures))) (sym next)
    ∙ ap (λ l. done ++ decls (entries_from N E T h k t l)) (sym (drop_more h.structures t ungrouped lt))
    ∙ is

-- and the carriers from the i-th on
abbrev pub AllRest : List (List ℕ) → List Decl → Maps → Hierarchy → List ConstId → List Decl → ℕ → Type 0
AllRest N E T h ks done i = done ++ decls (entries_of N E T h (drop i ks)) ≡ decls (entries_of N E T h ks)

pub carriers_turn : (N : List (List ℕ)) (E : List Decl) (T : Maps) (h : Hierarchy) (ks : List ConstId) (done done' : List Decl) (i : ℕ) (d : ConstId) → i < length ks → done' ≡ done ++ decls (entries_at N E T h (get_or ks i d)) → AllRest N E T h ks done i → AllRest N E T h ks done' (i + 1)
carriers_turn N E T h ks done done' i d lt e is =
    let k = get_or ks i d in
    let rest = entries_of N E T h (drop (i + 1) ks) in
    ap (λ l. l ++ decls rest) e
    ∙ append_assoc done (decls (entries_at N E T h k)) (decls rest)
    ∙ ap (λ l. done ++ l) (sym (map-append (λ (d : Made). d.1) (entries_at N E T h k) rest))
    ∙ ap (λ l. done ++ decls (entries_of N E T h l)) (sym (drop_more ks i d lt))
    ∙ is
