-- What an instance gives in the hierarchy, and what it leaves in an open section.
use Rattle.std.specs.Prelude.{◌≡◌, ◌++◌, List, map, Option, None, Some}
use Rattle.hb_base.specs.declared.name_id.NameId.{NameId}
use Rattle.hb_calculus.specs.Declarations.{Decl}
use Rattle.hb_env.specs.Naming.{name_in}
use Rattle.hb_env.specs.declared.entry.Head.{Head}
use Rattle.hb_env.specs.declared.entry.Head.TheVariants as heads
use Rattle.hb_env.specs.declared.named.Named.TheVariants.{Const}
use Rattle.hb_hier.specs.Giving.{provided_or_none, with_giving}
use Rattle.hb_hier.specs.Hierarchy.{Hierarchy, known_as}
use Rattle.hb_hier.specs.declared.known.Known.{Known}
use Rattle.hb_hier.specs.declared.known.Known.TheVariants as known
use Rattle.hb_order.specs.declared.ids.MixinId.{MixinId}
use Rattle.hb_order.specs.declared.ids.StructId.{StructId}
use Rattle.hb_raw.specs.Sentence.{Act, instance}
use Rattle.hb_sets.specs.Set.{Set, union}
use Rattle.hb_tree.specs.Tree.{Tree}
use Rattle.hb_tree.specs.declared.leaves.ConstId.{ConstId}
use Rattle.hb_world.specs.Taking.{binder_names}
use Rattle.hb_world.specs.Worlds.{Opened}
use Rattle.hb_instance.specs.declared.target.Target.{Target}
use Rattle.hb_instance.specs.declared.target.Target.TheVariants.{Constant, Local}

-- the structure that a name stands for
abbrev pub structure_as : Option Known → Option StructId
structure_as (Some (known.Structure s)) = Some s
structure_as _ = None

-- what a binder asks, by the name of its structure
abbrev pub asked_by : Hierarchy → Option NameId → Option StructId
asked_by h None = None
asked_by h (Some n) = structure_as (known_as h n)

abbrev pub asked : Hierarchy → List (Option NameId) → List (Option StructId)
asked h names = map (asked_by h) names

-- the hierarchy after an instance of the factory at a target: one giving more at a constant, none in a section
abbrev pub after : Hierarchy → Target → (factory : NameId) → Hierarchy
after h (Constant k binders) f = with_giving h k binders.items (provided_or_none h (known_as h f))
after h (Local g) f = h

-- outside a section an instance stands at the constant of its carrier, under the structures of its binders
abbrev pub IsTarget : Option Opened → List Decl → (carrier : NameId) → List (Option StructId) → Target → Type 0
IsTarget None E c structures (Constant k binders) = (name_in E (Const k) ≡ Some c.0) × (binders.items ≡ structures)
IsTarget None E c structures (Local g) = ⊥
IsTarget (Some o) E c structures (Constant k binders) = ⊥
IsTarget (Some o) E c structures (Local g) = Unit {0}

-- What an instance of the factory at the carrier does to the hierarchy: outside a section it gives what the factory
-- provides, at the constant of the carrier's name, under the structures of its binders; in a section, nothing.
abbrev pub Gives : Option Opened → List Decl → (factory carrier : NameId) → (binders : List (Option NameId)) → Hierarchy → Hierarchy → Type 0
Gives None E f c names h h' = (k : ConstId) × (name_in E (Const k) ≡ Some c.0) × (h' ≡ with_giving h k (asked h names) (provided_or_none h (known_as h f)))
Gives (Some o) E f c names h h' = h' ≡ h

-- the command is an instance, and does this
abbrev pub HasInstance : Act → Option Opened → List Decl → Hierarchy → Hierarchy → Type 0
HasInstance (instance n bs f c ws t) o E h h' = Gives o E f.name c.name (binder_names bs) h h'
HasInstance _ o E h h' = ⊥

-- the same of the entry of an instance
abbrev pub HasInstanceOf : Head → Option Opened → List Decl → Hierarchy → Hierarchy → Type 0
HasInstanceOf (heads.Instance f c v) o E h h' = Gives o E f c v.items h h'
HasInstanceOf _ o E h h' = ⊥

-- the section in which these mixins were given too: its carrier may have more, and so may its definitions
pub record HasGiven (mixins : Set) (s t : Opened) : Type 0 where
  pub given : List (MixinId × Tree)
  pub definitions : List NameId
  pub grown :
      t ≡ record s { given = s.given ++ given; provided = union s.provided mixins; definitions = s.definitions ++ definitions }

-- the same of the open section; where none is open, none opens
abbrev pub Keeps : (mixins : Set) → Option Opened → Option Opened → Type 0
Keeps x None o = o ≡ None
Keeps x (Some s) None = ⊥
Keeps x (Some s) (Some t) = HasGiven x s t

-- what an instance of the factory leaves in the open section: what the factory provides was given there too
abbrev pub IsKept : Hierarchy → (factory : NameId) → Option Opened → Option Opened → Type 0
IsKept h f o o' = Keeps (provided_or_none h (known_as h f)) o o'

-- the command is an instance, and leaves this
abbrev pub HasKept : Act → Hierarchy → Option Opened → Option Opened → Type 0
HasKept (instance n bs f c ws t) h o o' = IsKept h f.name o o'
HasKept _ h o o' = ⊥

-- the same of the entry of an instance
abbrev pub HasKeptOf : Head → Hierarchy → Option Opened → Option Opened → Type 0
HasKeptOf (heads.Instance f c v) h o o' = IsKept h f o o'
HasKeptOf _ h o o' = ⊥
