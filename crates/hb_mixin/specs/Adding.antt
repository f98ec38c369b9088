-- What a mixin or a factory adds to the hierarchy.
use Rattle.std.specs.Prelude.{◌≡◌, ℕ, List}
use Rattle.hb_base.specs.declared.name_id.NameId.{NameId}
use Rattle.hb_generated.specs.State as generated
use Rattle.hb_hier.specs.Hierarchy.{Hierarchy}
use Rattle.hb_hier.specs.Declaring.{with_mixin, with_factory}
use Rattle.hb_calculus.specs.Declarations.{Decl}
use Rattle.hb_mixin.specs.Declaring.{AreMade}
use Rattle.hb_mixin.specs.declared.declaring.Kind.{Kind}
use Rattle.hb_mixin.specs.declared.declaring.Kind.TheVariants.{Mixin, Factory}

abbrev pub with_kind : Kind → Hierarchy → NameId → List NameId → List NameId → Hierarchy
with_kind Mixin h n items fields = with_mixin h n items fields
with_kind Factory h n items fields = with_factory h n items fields

-- the command that makes the record
abbrev pub making : Kind → List NameId → generated.Kind
making Mixin items = generated.of_mixin items
making Factory items = generated.of_factory items

-- these declarations are made of some name and fields, and the second hierarchy is the first with them
abbrev pub IsLoaded : List (List ℕ) → List Decl → Kind → List NameId → List Decl → Hierarchy → Hierarchy → Type 0
IsLoaded N E k items ds h h' =
    (n : NameId) × (fields : List NameId) × AreMade N E h (making k items) n fields ds × (h' ≡ with_kind k h n items fields)
