-- Names of what is declared, picked by number.
use Rattle.std.specs.Prelude.{◌≡◌, ◌↔◌, IfSome, IsNone, ℕ, zero, suc, Bool, false, cond, nat_le, not, ◌==◌, ◌&&◌, List, [], ◌∷◌, ◌++◌, length, Option, None, Some}
use Rattle.hb_base.specs.declared.name_id.NameId.{NameId}
use Rattle.hb_sets.specs.Set.{Set, contains, is_subset}
use Rattle.hb_order.specs.Heirs.{mix}
use Rattle.hb_order.specs.declared.ids.MixinId.{MixinId}
use Rattle.hb_order.specs.declared.ids.StructId.{StructId}
use Rattle.hb_tree.specs.declared.leaves.ConstId.{ConstId}
use Rattle.hb_calculus.specs.Declarations.{Decl, IsIn, names}
use Rattle.hb_env.specs.declared.named.Named.{Named}
use Rattle.hb_env.specs.declared.named.Named.TheVariants.{Const, Proj}
use Rattle.hb_env.specs.Naming.{name_in}
use Rattle.hb_hier.specs.Hierarchy.{Hierarchy, name_of, sets}
use Rattle.hb_hier.specs.declared.known.Known.TheVariants.{Mixin, Structure}
use Rattle.hb_tables.specs.Maps.{Maps, entry_of}

-- a name more at the end, where there is one
abbrev pub with_name : List NameId → Option NameId → List NameId
with_name ns None = ns
with_name ns (Some n) = ns ++ n ∷ []

-- the names of those of the first n that are wanted
abbrev pub chosen : (wanted : ℕ → Bool) → (name : ℕ → Option NameId) → (n : ℕ) → List NameId
chosen wanted name zero = []
chosen wanted name (suc n) = cond (wanted n) (with_name (chosen wanted name n) (name n)) (chosen wanted name n)

abbrev pub mixin_id : ℕ → MixinId
mixin_id m = record { 0 = m }

abbrev pub struct_id : ℕ → StructId
struct_id s = record { 0 = s }

-- the names of a set's mixins below n, in the order of declaration
abbrev pub mixins_below : Hierarchy → Set → ℕ → List NameId
mixins_below h x n = chosen (λ m. contains x m) (λ m. name_of h (Mixin (mixin_id m))) n

abbrev pub mixin_names : Hierarchy → Set → List NameId
mixin_names h x = mixins_below h x (length h.mixins)

-- the names of the wanted structures below n, in the order of declaration
abbrev pub structures_below : Hierarchy → (wanted : ℕ → Bool) → ℕ → List NameId
structures_below h wanted n = chosen wanted (λ s. name_of h (Structure (struct_id s))) n

abbrev pub structure_names : Hierarchy → (wanted : ℕ → Bool) → List NameId
structure_names h wanted = structures_below h wanted (length h.structures)

-- s has each mixin of t, which is another
abbrev pub is_above : Hierarchy → (s t : ℕ) → Bool
is_above h s t = not (t == s) && is_subset (mix (sets h) t) (mix (sets h) s)

-- the constant was declared behind the first n declarations
abbrev pub is_late : Option ConstId → ℕ → Bool
is_late None n = false
is_late (Some k) n = nat_le n k.decl

-- the structures that have an instance at what the name stands for, which was declared behind the first n
abbrev pub new_at : Hierarchy → Maps → Option Named → (n : ℕ) → List NameId
new_at h t None n = []
new_at h t (Some (Const c)) n = structure_names h (λ s. is_late (entry_of t (struct_id s) c) n)
new_at h t (Some (Proj r i)) n = []

-- what is declared under the name, if anything is
pub record IsCalled (E : List Decl) (k : ℕ) (d : Option Named) : Type 0 where
  pub found : IfSome d (λ d. name_in E d ≡ Some k)
  pub none : IsNone d ↔ ¬ IsIn k (names E)

abbrev pub AreNewAt : List Decl → Hierarchy → Maps → (carrier n : ℕ) → List NameId → Type 0
AreNewAt E h t k n ns = (d : Option Named) × IsCalled E k d × (ns ≡ new_at h t d n)

-- the set holds what a structure has, and the set before it doesn't
abbrev pub is_new_in : (before now mixins : Set) → Bool
is_new_in before now mixins = is_subset mixins now && not (is_subset mixins before)

abbrev pub new_in : Hierarchy → (before now : Set) → List NameId
new_in h before now = structure_names h (λ s. is_new_in before now (mix (sets h) s))
