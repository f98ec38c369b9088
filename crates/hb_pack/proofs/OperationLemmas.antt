-- Operations, one after another.
use Rattle.std.proofs.Common.{◌≡◌, ◌∙◌, refl, sym, ap, Bool, true, false, cond, ℕ, zero, suc, ◌+◌, ◌<◌, List, [], ◌∷◌, ◌++◌, length, map, drop, get_or, Some, slice_get, append_assoc, arith}
use Rattle.std.proofs.lemmas.List.{drop_more, map-append}
use Rattle.hb_base.specs.declared.name_id.NameId.{NameId}
use Rattle.hb_tree.specs.Tree.{Tree, rel, pi, lam, proj}
use Rattle.hb_tree.specs.declared.leaves.RecId.{RecId}
use Rattle.hb_calculus.specs.Declarations.{Decl, a_definition, Record, record_in}
use Rattle.hb_calculus.specs.Telescopes.{former, projection_type}
use Rattle.hb_env.specs.declared.decl.Decl as env
use Rattle.hb_env.specs.Plain.{plain, plains}
use Rattle.hb_hier.specs.Hierarchy.{Hierarchy, required, sets}
use Rattle.std.specs.List.{list_any}
use Rattle.hb_sets.specs.Set.{contains}
use Rattle.hb_paths.specs.Packs.{Shape, sort_of, value_of}
use Rattle.hb_generated.specs.State.{Made, decls}
use Rattle.hb_generated.specs.Reading.{listed, a_mixin, record_place, record_at, record_or_none}
use Rattle.hb_generated.specs.Generating.{operations_of, operations}
use Rattle.hb_record.specs.Records.{IsField}
use Rattle.hb_pack.specs.Packing.{fields_in, one_operation, new_operations}

pub get_at : {X : Type 0} (xs : List X) (i : ℕ) (d : X) → i < length xs → slice_get xs i ≡ Some (get_or xs i d)
get_at [] i d lt = absurd (omega (arith, lt))
get_at (x ∷ xs) zero d lt = refl
get_at (x ∷ xs) (suc i) d lt = get_at xs i d (omega (arith, lt))

abbrev numbered : ℕ → RecId
numbered k = record { 0 = k }

pub operation_made : (E : List Decl) (h : Hierarchy) (S : Shape) (m i : ℕ) (f : NameId) → (r : RecId) → IsField E r.0 i → (own codomain body : Tree) (params : List Tree) (d : Decl) → r.0 ≡ record_place E h (a_mixin m) → own ≡ value_of S m (rel 0)
    → params ≡ sort_of S (rel 0) ∷ map (λ d. value_of S d (rel 0)) (listed (required h (a_mixin m)))
    → ((R : Record) (T : Tree) → record_in (slice_get E r.0) ≡ Some R → slice_get R.fields i ≡ Some T → codomain ≡ projection_type r T params i own)
    → body ≡ proj r i own → d ≡ a_definition f.0 (pi (former S.pack) codomain) (lam (former S.pack) body) → d ≡ one_operation E h S m i f
operation_made E h S m i f r has own codomain body params d is_r is_own is_params is_codomain is_body is_d =
    let p = record_place E h (a_mixin m) in
    let r_is : r ≡ record { 0 = p } = ap numbered is_r in
    let R = has.0 in
    let fits : i < length R.fields = has.2 in
    let T = get_or R.fields i (rel 0) in
    let found : record_in (slice_get E r.0) ≡ Some R = has.1 in
    let a : codomain ≡ projection_type r T params i own = is_codomain R T found (get_at R.fields i (rel 0) fits) in
    let at : record_at E p ≡ R = ap record_or_none (ap (λ k. record_in (slice_get E k)) (sym is_r) ∙ has.1) in
    let b : T ≡ get_or (record_at E p).fields i (rel 0) = ap (λ (x : Record). get_or x.fields i (rel 0)) (sym at) in
    is_d
    ∙ ap (λ t. a_definition f.0 (pi (former S.pack) t) (lam (former S.pack) body)) (a ∙ ap (λ t. projection_type r t params i own) b ∙ ap (λ qs. projection_type r (get_or (record_at E p).fields i (rel 0)) qs i own) is_params)
    ∙ ap (λ t. a_definition f.0 (pi (former S.pack) (projection_type r (get_or (record_at E p).fields i (rel 0)) (sort_of S (rel 0) ∷ map (λ d. value_of S d (rel 0)) (listed (required h (a_mixin m)))) i own)) (lam (former S.pack) t)) is_body
    ∙ ap (λ v. a_definition f.0 (pi (former S.pack) (projection_type r (get_or (record_at E p).fields i (rel 0)) (sort_of S (rel 0) ∷ map (λ d. value_of S d (rel 0)) (listed (required h (a_mixin m)))) i v)) (lam (former S.pack) (proj r i v))) is_own
    ∙ ap (λ (x : RecId). a_definition f.0 (pi (former S.pack) (projection_type x (get_or (record_at E p).fields i (rel 0)) (sort_of S (rel 0) ∷ map (λ d. value_of S d (rel 0)) (listed (required h (a_mixin m)))) i (value_of S m (rel 0)))) (lam (former S.pack) (proj x i (value_of S m (rel 0))))) r_is

-- what is done, and what the fields from number i on give, are the whole
abbrev pub IsRest : List Decl → Hierarchy → ℕ → Shape → ℕ → List NameId → List Decl → ℕ → Type 0
IsRest E h s S m names done i = done ++ decls (operations_of E h s S m i (drop i names)) ≡ decls (operations_of E h s S m 0 names)

pub operations_turn : (E : List Decl) (h : Hierarchy) (s : ℕ) (S : Shape) (m : ℕ) (names : List NameId) (done : List env.Decl) (i : ℕ) (f : NameId) (d : env.Decl) → i < length names → plain d ≡ one_operation E h S m i (get_or names i f) → IsRest E h s S m names (plains done) i → IsRest E h s S m names (plains (done ++ d ∷ [])) (i + 1)
operations_turn E h s S m names done i f d lt e is =
    let rest = decls (operations_of E h s S m (i + 1) (drop (i + 1) names)) in
    let next : suc i ≡ i + 1 = omega arith in
    ap (λ l. l ++ rest) (map-append plain done (d ∷ []))
    ∙ append_assoc (plains done) (plain d ∷ []) rest
    ∙ ap (λ x. plains done ++ x ∷ rest) e
    ∙ ap (λ k. plains done ++ one_operation E h S m i (get_or names i f) ∷ decls (operations_of E h s S m k (drop (i + 1) names))) (sym next)
    ∙ ap (λ l. plains done ++ decls (operations_of E h s S m i l)) (sym (drop_more names i f lt))
    ∙ is

decls_cond : (b : Bool) (made : List Made) → decls (cond b [] made) ≡ cond b [] (decls made)
decls_cond true made = refl
decls_cond false made = refl

-- what is done, and what the mixins from place i on give, are the whole
abbrev pub AllRest : List Decl → Hierarchy → ℕ → Shape → List ℕ → List Decl → ℕ → Type 0
AllRest E h s S ms done i = done ++ decls (operations E h s S (drop i ms)) ≡ decls (operations E h s S ms)

pub all_turn : (E : List Decl) (h : Hierarchy) (s : ℕ) (S : Shape) (ms : List ℕ) (done new : List env.Decl) (i : ℕ) → i < length ms → plains new ≡ new_operations E h s S (get_or ms i 0) → AllRest E h s S ms (plains done) i → AllRest E h s S ms (plains (done ++ new)) (i + 1)
all_turn E h s S ms done new i lt e is =
    let m = get_or ms i 0 in
    let made = operations_of E h s S m 0 (fields_in h m) in
    let b = list_any (λ x. contains x m) (sets h) in
    let later = operations E h s S (drop (i + 1) ms) in
    ap (λ l. l ++ decls later) (map-append plain done new)
    ∙ append_assoc (plains done) (plains new) (decls later)
    ∙ ap (λ l. plains done ++ (l ++ decls later)) (e ∙ sym (decls_cond b made))
    ∙ ap (λ l. plains done ++ l) (sym (map-append (λ (d : Made). d.1) (cond b [] made) later))
    ∙ ap (λ l. plains done ++ decls (operations E h s S l)) (sym (drop_more ms i 0 lt))
    ∙ is
