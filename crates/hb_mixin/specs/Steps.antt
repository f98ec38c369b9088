-- Why the steps of taking a mixin or a factory fail.
use Rattle.std.specs.Prelude.{◌≡◌, ℕ, ◌⊎◌, List, [], ◌∷◌, map, IsSome}
use Rattle.hb_base.specs.declared.count.Count.{Count}
use Rattle.hb_base.specs.declared.name_id.NameId.{NameId}
use Rattle.hb_base.specs.declared.span.Span.{Span}
use Rattle.hb_calculus.specs.Budget.{Budget}
use Rattle.hb_calculus.specs.Declarations.{Decl, an_axiom, a_definition, a_record}
use Rattle.hb_env.specs.declared.refusal.Refusal.{Refusal}
use Rattle.hb_env.specs.declared.refusal.What.{What}
use Rattle.hb_env.specs.declared.refusal.What.TheVariants as what
use Rattle.hb_hier.specs.Declaring.{DeclareRefusal}
use Rattle.hb_hier.specs.Hierarchy.{Hierarchy, MOST, known_as}
use Rattle.hb_hier.specs.declared.error.HierRefused.{HierRefused}
use Rattle.hb_items.specs.Items.{told}
use Rattle.hb_mixin.specs.Refusing.{refusal, Family, mixins, factories, held, counted, Writing}
use Rattle.hb_mixin.specs.declared.declaring.Kind.{Kind}
use Rattle.hb_mixin.specs.declared.declaring.Kind.TheVariants.{Mixin, Factory}
use Rattle.hb_raw.specs.Views.{field}
use Rattle.hb_raw.specs.declared.word.Field.{Field}
use Rattle.hb_raw.specs.declared.word.Item.{Item}
use Rattle.hb_raw.specs.declared.word.Word.{Word}
use Rattle.hb_step.specs.Adding.{NotAdded}
use Rattle.hb_step.specs.Counting.{ComeToPass}
use Rattle.hb_step.specs.Naming.{IsUnfit}

abbrev pub family : Kind → Family
family Mixin = mixins
family Factory = factories

abbrev pub writing : Kind → (name carrier : Word) → List Item → List Field → Writing
writing k n c is fs = record { family = family k; name = n; carrier = c; items = is; fields = map field fs }

-- memory is wanting, or the refusal has another cause
abbrev pub OrNoMemory : (Refusal → Type 0) → Refusal → Type 0
OrNoMemory cause r = (r.what ≡ what.NoMemory) ⊎ cause r

-- a name of the declarations isn't new
abbrev pub HasUnfit : List Decl → Hierarchy → List Decl → Span → Refusal → Type 0
HasUnfit E h ds s r = (m : NameId) × IsUnfit E h [] ds m × (r ≡ refusal s (what.Redeclared m))

-- there are as many mixins or factories as there may be, or the declarations pass a count
abbrev pub PassesCount : List Decl → Hierarchy → Kind → List Decl → Span → Refusal → Type 0
PassesCount E h k ds s r =
    ((held (family k) h ≡ MOST) × (r ≡ refusal s (what.TooMany (counted (family k)))))
    ⊎ ((c : Count) × ComeToPass E ds c × (r ≡ refusal s (what.TooMany c)))

-- a record at another level
abbrev pub leveled : ℕ → Decl → Decl
leveled k (an_axiom n t) = an_axiom n t
leveled k (a_definition n t b) = a_definition n t b
leveled k (a_record n m ps j fs) = a_record n m ps k fs

-- the kernel doesn't add the declaration, or doesn't at some level
abbrev pub IsNotAdded : List Decl → Budget → Decl → Span → Refusal → Type 0
IsNotAdded E L d s r = (r.span ≡ s) × (NotAdded E L d r.what ⊎ ((k : ℕ) × NotAdded E L (leveled k d) r.what))

-- the hierarchy has something under the name, or doesn't take it
abbrev pub IsNotTaken : Hierarchy → Kind → NameId → List NameId → Span → Refusal → Type 0
IsNotTaken h k n items s r =
    (IsSome (known_as h n) × (r ≡ refusal s (what.Redeclared n)))
    ⊎ ((e : HierRefused) × DeclareRefusal h items (counted (family k)) (held (family k) h) e × (r ≡ refusal s (told h n e)))

-- the kernel doesn't add the one declaration, or the hierarchy doesn't take the name
abbrev pub AddFails : List Decl → Hierarchy → Budget → Kind → NameId → List NameId → List Decl → Span → Refusal → Type 0
AddFails E h L k n items ds s r =
    (d : Decl) → ds ≡ d ∷ [] → OrNoMemory (λ e. IsNotAdded E L d s e ⊎ IsNotTaken h k n items s e) r
