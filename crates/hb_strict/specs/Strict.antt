-- Strict typing: the typing rules with conversion only along chains of types, whose neighbours are one step, one eta
-- contraction or the order apart (after the conversion rule of the Rocq manual; the strictness is this project's own).
use Rattle.std.specs.Prelude.{◌≡◌, ℕ, ◌+◌, ◌≤◌, List, [], ◌∷◌, ◌++◌, length, Some, slice_get}
use Rattle.hb_tree.specs.Tree.{Tree, sort, rel, pi, lam, app, const, proj, lift, subst_at, apply}
use Rattle.hb_tree.specs.declared.leaves.Sort.{Sort}
use Rattle.hb_tree.specs.declared.leaves.Sort.TheVariants.{Prop, Level}
use Rattle.hb_tree.specs.declared.leaves.ConstId.{ConstId}
use Rattle.hb_tree.specs.declared.leaves.RecId.{RecId}
use Rattle.hb_calculus.specs.Declarations.{Decl, an_axiom, a_definition, a_record, Record, record_in, field_types, names, Distinct}
use Rattle.hb_calculus.specs.Telescopes.{former, type_in, projection_type}
use Rattle.hb_calculus.specs.Contraction.{next, next_eta}
use Rattle.hb_calculus.specs.Conversion.{Ordered, IsSortBelow}
use Rattle.hb_calculus.specs.Typing.{product_sort, extended}
use Rattle.hb_strict.specs.declared.link.Link.{Link}
use Rattle.hb_strict.specs.declared.link.Link.TheVariants.{Step, StepBack, Eta, EtaBack, Order}

-- the second term follows from the first by the link
abbrev pub IsLinked : List Decl → Link → Tree → Tree → Type 0
IsLinked E Step t u = next E t ≡ Some u
IsLinked E StepBack t u = next E u ≡ Some t
IsLinked E Eta t u = next_eta E t ≡ Some u
IsLinked E EtaBack t u = next_eta E u ≡ Some t
IsLinked E Order t u = Ordered t u

mutual
  -- Under the types G of the variables, the innermost first, the term has the type, strictly.
  pub data HasStrictType (E : List Decl) : List Tree → Tree → Tree → Type 0 where
    strict_prop : {G : List Tree} {u : Tree} → u ≡ sort (Level 0) → HasStrictType E G (sort Prop) u
    strict_level : {G : List Tree} {k : ℕ} {u : Tree} → k ≤ 62 → u ≡ sort (Level (k + 1)) → HasStrictType E G (sort (Level k)) u
    strict_variable : {G : List Tree} {v : ℕ} {t u : Tree} → slice_get G v ≡ Some t → u ≡ lift t (v + 1) 0 → HasStrictType E G (rel v) u
    strict_constant : {G : List Tree} {c : ConstId} {u : Tree} → type_in (slice_get E c.decl) c ≡ Some u → HasStrictType E G (const c) u
    strict_product :
        {G : List Tree} {a b u : Tree} {s s' : Sort} → HasStrictType E G a (sort s) → HasStrictType E (a ∷ G) b (sort s')
        → u ≡ sort (product_sort s s') → HasStrictType E G (pi a b) u
    strict_function :
        {G : List Tree} {a b t : Tree} {s : Sort} → HasStrictType E G a (sort s) → HasStrictType E (a ∷ G) b t
        → HasStrictType E G (lam a b) (pi a t)
    strict_application :
        {G : List Tree} {f x a b u : Tree} → HasStrictType E G f (pi a b) → HasStrictType E G x a → u ≡ subst_at b x 0
        → HasStrictType E G (app f x) u
    strict_projection :
        {G : List Tree} {r : RecId} {i : ℕ} {t w T u : Tree} {R : Record} (qs : List Tree) → record_in (slice_get E r.0) ≡ Some R
        → HasStrictType E G t w → w ≡ apply (former r.0) qs → length qs ≡ length R.params → slice_get R.fields i ≡ Some T
        → u ≡ projection_type r T qs i t → HasStrictType E G (proj r i t) u
    strict_converted : {G : List Tree} {t u u' : Tree} → HasStrictType E G t u → Leads E G u u' → HasStrictType E G t u'

  -- a chain of types leads from the first to the second
  pub data Leads (E : List Decl) : List Tree → Tree → Tree → Type 0 where
    stays : {G : List Tree} {u : Tree} {s : Sort} → HasStrictType E G u (sort s) → Leads E G u u
    leads_on :
        {G : List Tree} {u v w : Tree} {s : Sort} (l : Link) → Leads E G u v → IsLinked E l v w → HasStrictType E G w (sort s)
        → Leads E G u w

-- t is a type
abbrev pub IsStrictType : List Decl → List Tree → Tree → Type 0
IsStrictType E G t = (s : Sort) × HasStrictType E G t (sort s)

-- types, each in the context of those before it
abbrev pub AreStrictTypes : List Decl → List Tree → List Tree → Type 0
AreStrictTypes E G [] = Unit {0}
AreStrictTypes E G (a ∷ rest) = IsStrictType E G a × AreStrictTypes E (a ∷ G) rest

-- the same, each of a sort at most Type@{k}
abbrev pub AreStrictTypesBelow : List Decl → ℕ → List Tree → List Tree → Type 0
AreStrictTypesBelow E k G [] = Unit {0}
AreStrictTypesBelow E k G (a ∷ rest) =
    ((s : Sort) × HasStrictType E G a (sort s) × IsSortBelow s (Level k)) × AreStrictTypesBelow E k (a ∷ G) rest

-- the declaration is strictly typed in the environment E
abbrev pub IsStrict : List Decl → Decl → Type 0
IsStrict E (an_axiom n t) = IsStrictType E [] t
IsStrict E (a_definition n t b) = IsStrictType E [] t × HasStrictType E [] b t
IsStrict E (a_record n m ps k fs) = AreStrictTypes E [] ps × AreStrictTypesBelow E k (extended [] ps) (field_types fs)

-- declarations after the environment E, each strictly typed in those before it
abbrev pub AreStrict : List Decl → List Decl → Type 0
AreStrict E [] = Unit {0}
AreStrict E (d ∷ ds) = IsStrict E d × AreStrict (E ++ d ∷ []) ds

-- a strictly formed environment: all names differ, and each declaration is strictly typed in those before it
pub record StrictlyFormed (E : List Decl) : Type 0 where
  pub distinct : Distinct (names E)
  pub strict : AreStrict [] E
