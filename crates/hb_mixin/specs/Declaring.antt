-- What a mixin or a factory adds to the hierarchy.
use Rattle.std.specs.Prelude.{◌≡◌, ℕ, List, [], ◌∷◌, map, Some}
use Rattle.hb_base.specs.declared.name_id.NameId.{NameId}
use Rattle.hb_calculus.specs.Declarations.{Decl}
use Rattle.hb_env.specs.declared.entry.Head.{Head}
use Rattle.hb_env.specs.declared.entry.Head.TheVariants as heads
use Rattle.hb_generated.specs.Generating.{gen}
use Rattle.hb_generated.specs.State.{State, Own, Kind, of_mixin, of_factory, decls}
use Rattle.hb_hier.specs.Declaring.{with_mixin, with_factory}
use Rattle.hb_hier.specs.Hierarchy.{Hierarchy}
use Rattle.hb_mixin.specs.Naming.{IsRecordNamed}
use Rattle.hb_raw.specs.Preterm.{Preterm}
use Rattle.hb_raw.specs.Sentence.{Act, mixin, factory}
use Rattle.hb_raw.specs.declared.word.Word.{Word}
use Rattle.hb_world.specs.Taking.{factory_names}

-- the names of fields, as they are written
abbrev pub field_names : List (Word × Preterm) → List NameId
field_names fields = map (λ f. f.0.name) fields

-- the command is a mixin or a factory, and the second hierarchy is the first with it
abbrev pub HasDeclared : Act → Hierarchy → Hierarchy → Type 0
HasDeclared (mixin n c is fs) h h' = h' ≡ with_mixin h n.name (factory_names is) (field_names fs)
HasDeclared (factory n c is fs) h h' = h' ≡ with_factory h n.name (factory_names is) (field_names fs)
HasDeclared _ h h' = ⊥

-- The declarations are those that the command k makes over E and h, of its name n and of fields with these short
-- names: one record under that name.
pub record AreMade (N : List (List ℕ)) (E : List Decl) (h : Hierarchy) (k : Kind) (n : NameId) (fields : List NameId) (ds : List Decl) : Type 0 where
  pub declared : Decl
  pub only : ds ≡ declared ∷ []
  pub named : IsRecordNamed N n fields declared
  pub own : Own
  pub own_name : own.name ≡ Some n.0
  pub own_fields : map (λ f. f.0) own.fields ≡ map (λ s. s.0) fields
  pub made : (S : State) → S.env ≡ E → S.hier ≡ h → ds ≡ decls (gen N S k own)

-- the entry is a mixin or a factory with the declarations that it makes, and the second hierarchy is the first with it
abbrev pub HasDeclaredOf : List (List ℕ) → List Decl → Head → List Decl → Hierarchy → Hierarchy → Type 0
HasDeclaredOf N E (heads.Mixin v) ds h h' =
    (n : NameId) × (fields : List NameId) × AreMade N E h (of_mixin v.items) n fields ds × (h' ≡ with_mixin h n v.items fields)
HasDeclaredOf N E (heads.Factory v) ds h h' =
    (n : NameId) × (fields : List NameId) × AreMade N E h (of_factory v.items) n fields ds × (h' ≡ with_factory h n v.items fields)
HasDeclaredOf N E _ ds h h' = ⊥
