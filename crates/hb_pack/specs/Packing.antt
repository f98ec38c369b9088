-- What is handed over to make declarations of, and the names that they get.
use Rattle.std.specs.Prelude.{◌≡◌, ℕ, cond, slice_index_or, List, [], ◌∷◌, map, codes, Option, Some, None, is_some}
use Rattle.hb_base.specs.declared.name_id.NameId.{NameId}
use Rattle.std.specs.List.{list_any}
use Rattle.hb_sets.specs.Set.{Set, contains}
use Rattle.hb_tree.specs.Tree.{Tree, rel, pi, lam, proj}
use Rattle.hb_calculus.specs.Declarations.{Decl, a_definition}
use Rattle.hb_calculus.specs.Telescopes.{former, projection_type}
use Rattle.hb_env.specs.declared.decl.Decl as env
use Rattle.hb_env.specs.Plain.{plain}
use Rattle.hb_hier.specs.Hierarchy.{Hierarchy, Grouped, undeclared, required, brought, sets}
use Rattle.hb_tree.specs.declared.leaves.ConstId.{ConstId}
use Rattle.hb_givings.specs.Givings.{givings_at}
use Rattle.hb_tables.specs.Maps.{Maps, entry_of}
use Rattle.hb_paths.specs.Packs.{Shape, sort_of, value_of, coercion_body}
use Rattle.hb_generated.specs.State.{State, Own, decls}
use Rattle.hb_generated.specs.Names.{followed, between}
use Rattle.hb_generated.specs.Reading.{listed, a_mixin, record_place, record_at, is_inside, shape_of, takes_of}
use Rattle.hb_generated.specs.Generating.{own_or_none, own_fields, class_field, operations_of, instance_of}
use Rattle.hb_pack.specs.declared.names.StructureNames.{StructureNames}

-- the session's declarations and hierarchy; the names of a mixin or factory and of its maker, the mixins that
-- its list brings, its level, and its fields under their whole names
pub record IsRecordOf (N : List (List ℕ)) (S : State) (items : List NameId) (o : Own) (E : List Decl) (h : Hierarchy) (name maker : ℕ) (required : Set) (level : ℕ) (fields : List (ℕ × Tree)) : Type 0 where
  pub env : S.env ≡ E
  pub hier : S.hier ≡ h
  pub name_is : own_or_none o ≡ name
  pub maker_is : followed N name (codes ".Build") ≡ maker
  pub brought_is : brought h items ≡ required
  pub level_is : o.level ≡ level
  pub fields_are : own_fields N name o.fields ≡ fields

-- the names of the records of structure s with these mixins
pub record AreNamesOf (N : List (List ℕ)) (h : Hierarchy) (s : ℕ) (ms : List ℕ) (names : StructureNames) : Type 0 where
  pub class_is : followed N s (codes ".axioms_") ≡ names.class.0
  pub class_maker_is : followed N s (codes ".Class") ≡ names.class_maker.0
  pub class_fields_are : map (λ n. n.0) names.class_fields.items ≡ map (class_field N h s) ms
  pub pack_is : followed N s (codes ".type") ≡ names.pack.0
  pub pack_maker_is : followed N s (codes ".Pack") ≡ names.pack_maker.0
  pub carrier_is : followed N s (codes ".sort") ≡ names.carrier.0
  pub class_field_is : followed N s (codes ".class") ≡ names.class_field.0

-- the declaration, where there is one
abbrev pub plain_or_none : Option env.Decl → List Decl
plain_or_none None = []
plain_or_none (Some d) = plain d ∷ []

-- the coercion to the structure with number t, if it lies strictly inside
abbrev pub one_coercion : List (List ℕ) → Hierarchy → Maps → ℕ → Shape → Set → ℕ → Grouped → List Decl
one_coercion N h T n S x t g =
    cond (is_inside g.mixins x)
    (a_definition (between N n (codes "_to_") g.name.0) (pi (former S.pack) (former (shape_of T (sets h) t).pack)) (coercion_body S (shape_of T (sets h) t)) ∷ [])
    []

-- the names of the fields of mixin m
abbrev pub fields_in : Hierarchy → ℕ → List NameId
fields_in h m = (slice_index_or h.mixins m undeclared).fields

-- the operation of field i of mixin m under the name f
abbrev pub one_operation : List Decl → Hierarchy → Shape → ℕ → ℕ → NameId → Decl
one_operation E h S m i f =
    let r : ℕ = record_place E h (a_mixin m) in
    let v : Tree = value_of S m (rel 0) in
    let qs : List Tree = sort_of S (rel 0) ∷ map (λ d. value_of S d (rel 0)) (listed (required h (a_mixin m))) in
    let T : Tree = projection_type (record { 0 = r }) (slice_index_or (record_at E r).fields i (rel 0)) qs i v in
    a_definition f.0 (pi (former S.pack) T) (lam (former S.pack) (proj (record { 0 = r }) i v))

-- the operations of mixin m, if no declared structure has it
abbrev pub new_operations : List Decl → Hierarchy → ℕ → Shape → ℕ → List Decl
new_operations E h s S m = cond (list_any (λ x. contains x m) (sets h)) [] (decls (operations_of E h s S m 0 (fields_in h m)))

-- the session has these declarations, this hierarchy and these tables
pub record IsOver (S : State) (E : List Decl) (h : Hierarchy) (T : Maps) : Type 0 where
  pub env : S.env ≡ E
  pub hier : S.hier ≡ h
  pub tables : S.tables ≡ T

-- the instance of structure t at carrier k, if it takes it and has none
abbrev pub one_entry : List (List ℕ) → List Decl → Maps → Hierarchy → ConstId → ℕ → Grouped → List Decl
one_entry N E T h k t g =
    cond (is_some (entry_of T (record { 0 = t }) k)) []
    (cond (takes_of (sets h) (givings_at h.givings k) g.mixins) (instance_of N E T h k t g.name.0 ∷ []) [])
