-- Typing, and well formed environments (Rocq manual, "Typing rules").
use Rattle.std.specs.Prelude.{◌≡◌, ℕ, ◌+◌, ◌≤◌, max, List, [], ◌∷◌, ◌++◌, length, Some, slice_get}
use Rattle.hb_tree.specs.Tree.{Tree, sort, rel, pi, lam, app, const, proj, lift, subst_at, apply}
use Rattle.hb_tree.specs.declared.leaves.Sort.{Sort}
use Rattle.hb_tree.specs.declared.leaves.Sort.TheVariants.{Prop, Level}
use Rattle.hb_tree.specs.declared.leaves.ConstId.{ConstId}
use Rattle.hb_tree.specs.declared.leaves.RecId.{RecId}
use Rattle.hb_calculus.specs.Declarations.{Decl, an_axiom, a_definition, a_record, Record, record_in, field_types, names, Distinct}
use Rattle.hb_calculus.specs.Telescopes.{former, type_in, projection_type}
use Rattle.hb_calculus.specs.Step.{Steps}
use Rattle.hb_calculus.specs.Conversion.{Below}

-- the sort of a product whose domain and codomain have these sorts
abbrev pub product_sort : Sort → Sort → Sort
product_sort s Prop = Prop
product_sort Prop (Level k) = Level k
product_sort (Level j) (Level k) = Level (max j k)

-- Under the types G of the variables, the innermost first, the term has the type.
pub data HasType (E : List Decl) : List Tree → Tree → Tree → Type 0 where
  of_prop : {G : List Tree} {u : Tree} → u ≡ sort (Level 0) → HasType E G (sort Prop) u
  of_level : {G : List Tree} {k : ℕ} {u : Tree} → k ≤ 62 → u ≡ sort (Level (k + 1)) → HasType E G (sort (Level k)) u
  of_variable : {G : List Tree} {v : ℕ} {t u : Tree} → slice_get G v ≡ Some t → u ≡ lift t (v + 1) 0 → HasType E G (rel v) u
  of_constant : {G : List Tree} {c : ConstId} {u : Tree} → type_in (slice_get E c.decl) c ≡ Some u → HasType E G (const c) u
  of_product :
      {G : List Tree} {a b u : Tree} {s s' : Sort} → HasType E G a (sort s) → HasType E (a ∷ G) b (sort s')
      → u ≡ sort (product_sort s s') → HasType E G (pi a b) u
  of_function :
      {G : List Tree} {a b t : Tree} {s : Sort} → HasType E G a (sort s) → HasType E (a ∷ G) b t
      → HasType E G (lam a b) (pi a t)
  of_application :
      {G : List Tree} {f x a a' b u : Tree} → HasType E G f (pi a b) → HasType E G x a' → Below E a' a
      → u ≡ subst_at b x 0 → HasType E G (app f x) u
  of_projection :
      {G : List Tree} {r : RecId} {i : ℕ} {t w T u : Tree} {R : Record} (qs : List Tree)
      → record_in (slice_get E r.0) ≡ Some R → HasType E G t w → w ≡ apply (former r.0) qs
      → length qs ≡ length R.params → slice_get R.fields i ≡ Some T → u ≡ projection_type r T qs i t
      → HasType E G (proj r i t) u
  reduced : {G : List Tree} {t u u' : Tree} → HasType E G t u → Steps E u u' → HasType E G t u'
  weaker :
      {G : List Tree} {t u u' : Tree} {s : Sort} → HasType E G t u → Below E u u' → HasType E G u' (sort s)
      → HasType E G t u'

-- t is a type
abbrev pub IsType : List Decl → List Tree → Tree → Type 0
IsType E G t = (s : Sort) × HasType E G t (sort s)

-- types, each in the context of those before it
abbrev pub AreTypes : List Decl → List Tree → List Tree → Type 0
AreTypes E G [] = Unit {0}
AreTypes E G (a ∷ rest) = IsType E G a × AreTypes E (a ∷ G) rest

-- the same, each of a sort at most Type@{k}
abbrev pub AreTypesBelow : List Decl → ℕ → List Tree → List Tree → Type 0
AreTypesBelow E k G [] = Unit {0}
AreTypesBelow E k G (a ∷ rest) =
    ((s : Sort) × HasType E G a (sort s) × Below E (sort s) (sort (Level k))) × AreTypesBelow E k (a ∷ G) rest

-- the context G with the types after it, each the innermost in its turn
abbrev pub extended : List Tree → List Tree → List Tree
extended G [] = G
extended G (a ∷ rest) = extended (a ∷ G) rest

-- the declaration is typed in the environment E
abbrev pub IsTyped : List Decl → Decl → Type 0
IsTyped E (an_axiom n t) = IsType E [] t
IsTyped E (a_definition n t b) = IsType E [] t × HasType E [] b t
IsTyped E (a_record n m ps k fs) = AreTypes E [] ps × AreTypesBelow E k (extended [] ps) (field_types fs)

-- declarations after the environment E, each typed in those before it
abbrev pub AreTyped : List Decl → List Decl → Type 0
AreTyped E [] = Unit {0}
AreTyped E (d ∷ ds) = IsTyped E d × AreTyped (E ++ d ∷ []) ds

-- a well formed environment: all names differ, and each declaration is typed in those before it
pub record WellFormed (E : List Decl) : Type 0 where
  pub distinct : Distinct (names E)
  pub typed : AreTyped [] E
