-- What was declared under a name, and what isn't there.
use Rattle.std.proofs.Common.{◌≡◌, ◌∙◌, refl, sym, ap, ℕ, zero, suc, ◌+◌, ◌-◌, ◌<◌, Bool, true, false, ◌||◌, List, [], ◌∷◌, ◌++◌, length, get_or, Option, Some, None, slice_get, append_assoc, arith}
use Rattle.std.specs.Option.{option_map}
use Rattle.std.specs.List.{list_any}
use Rattle.std.proofs.lemmas.List.{map-append}
use Rattle.hb_sets.specs.Set.{empty}
use Rattle.hb_base.specs.declared.name_id.NameId.{NameId}
use Rattle.hb_tree.specs.Tree.{Tree, rel}
use Rattle.hb_term.specs.declared.term.Term.{Term}
use Rattle.hb_term.specs.Meaning.{tree}
use Rattle.hb_env.specs.Plain.{trees, plain_fields}
use Rattle.hb_calculus.specs.Declarations.{Decl, a_record, field_types, record_in}
use Rattle.hb_record.specs.Records.{IsField}
use Rattle.hb_env.proofs.ListLemmas.{variables_more}
use Rattle.hb_calculus.specs.Telescopes.{variables}
use Rattle.hb_hier.specs.Hierarchy.{Hierarchy, Declared, Grouped, IsDeclared, name_of, required, undeclared, ungrouped}
use Rattle.hb_hier.specs.declared.known.Known.{Known}
use Rattle.hb_hier.specs.declared.known.Known.TheVariants.{Mixin, Factory, Structure}
use Rattle.hb_generated.specs.Reading.{name_in}

pub map_none : {X Y : Type 0} (f : X → Y) (o : Option X) → option_map f o ≡ None → o ≡ None
map_none f None e = refl
map_none f (Some x) e = absurd (cc)

pub or_none : {X : Type 0} (xs : List X) (i : ℕ) (d : X) → slice_get xs i ≡ None → get_or xs i d ≡ d
or_none [] i d e = refl
or_none (x ∷ xs) zero d e = absurd (cc)
or_none (x ∷ xs) (suc i) d e = or_none xs i d e

pub some_within : {X Y : Type 0} (f : X → Y) (xs : List X) (i : ℕ) (y : Y) → option_map f (slice_get xs i) ≡ Some y → i < length xs
some_within f [] i y e = absurd (cc)
some_within f (x ∷ xs) zero y e = omega arith
some_within f (x ∷ xs) (suc i) y e = omega (arith, some_within f xs i y e)

pub name_none : (h : Hierarchy) (k : Known) → name_of h k ≡ None → name_in h k ≡ 0
name_none h (Mixin m) e = ap (λ (d : Declared). d.name.0) (or_none h.mixins m.0 undeclared (map_none (λ (d : Declared). d.name) (slice_get h.mixins m.0) e))
name_none h (Factory f) e = ap (λ (d : Declared). d.name.0) (or_none h.factories f.0 undeclared (map_none (λ (d : Declared). d.name) (slice_get h.factories f.0) e))
name_none h (Structure s) e = ap (λ (d : Grouped). d.name.0) (or_none h.structures s.0 ungrouped (map_none (λ (d : Grouped). d.name) (slice_get h.structures s.0) e))

pub required_none : (h : Hierarchy) (k : Known) → name_of h k ≡ None → required h k ≡ empty
required_none h (Mixin m) e = ap (λ (d : Declared). d.required) (or_none h.mixins m.0 undeclared (map_none (λ (d : Declared). d.name) (slice_get h.mixins m.0) e))
required_none h (Factory f) e = ap (λ (d : Declared). d.required) (or_none h.factories f.0 undeclared (map_none (λ (d : Declared). d.name) (slice_get h.factories f.0) e))
required_none h (Structure s) e = refl

pub named_declared : (h : Hierarchy) (k : Known) (n : NameId) → name_of h k ≡ Some n → IsDeclared h k
named_declared h (Mixin m) n e = some_within (λ (d : Declared). d.name) h.mixins m.0 n e
named_declared h (Factory f) n e = some_within (λ (d : Declared). d.name) h.factories f.0 n e
named_declared h (Structure s) n e = some_within (λ (d : Grouped). d.name) h.structures s.0 n e

pub variables_turn : (done : List Term) (t : Term) (left : ℕ) (whole : List Tree) → 0 < left → tree t ≡ rel (left - 1) → trees done ++ variables left 0 ≡ whole → trees (done ++ t ∷ []) ++ variables (left - 1) 0 ≡ whole
variables_turn done t left whole lt e is =
    let zero_more : left - 1 + 0 ≡ left - 1 = omega arith in
    ap (λ l. l ++ variables (left - 1) 0) (map-append tree done (t ∷ []))
    ∙ append_assoc (trees done) (tree t ∷ []) (variables (left - 1) 0)
    ∙ ap (λ x. trees done ++ x ∷ variables (left - 1) 0) (e ∙ ap rel (sym zero_more))
    ∙ ap (λ l. trees done ++ l) (sym (variables_more left 0 lt))
    ∙ is

-- a test that some item passes, and that none does
pub any_found : {X : Type 0} (p : X → Bool) (xs : List X) (i : ℕ) (d : X) → i < length xs → p (get_or xs i d) ≡ true → list_any p xs ≡ true
any_found p [] i d lt e = absurd (omega (arith, lt))
any_found p (x ∷ xs) zero d lt e = ap (λ b. b || list_any p xs) e
any_found p (x ∷ xs) (suc i) d lt e = by (p x) (any_found p xs i d (omega (arith, lt)) e)
  where
    by : (b : Bool) → list_any p xs ≡ true → (b || list_any p xs) ≡ true
    by true r = refl
    by false r = r

pub any_none : {X : Type 0} (p : X → Bool) (xs : List X) (d : X) → ((i : ℕ) → i < length xs → p (get_or xs i d) ≡ false) → list_any p xs ≡ false
any_none p [] d h = refl
any_none p (x ∷ xs) d h = ap (λ b. b || list_any p xs) (h 0 (omega arith)) ∙ any_none p xs d (λ i lt. h (suc i) (omega (arith, lt)))

length-types : (fs : List (NameId × Term)) → length (field_types (plain_fields fs)) ≡ length fs
length-types [] = refl
length-types (f ∷ fs) = ap suc (length-types fs)

-- a record with a field
pub has_field : (E : List Decl) (r i n m : ℕ) (ps : List Tree) (k : ℕ) (fs : List (NameId × Term)) → slice_get E r ≡ Some (a_record n m ps k (plain_fields fs)) → i < length fs → IsField E r i
has_field E r i n m ps k fs found lt =
    (record { params = ps; level = k; fields = field_types (plain_fields fs) }, ap record_in found, omega (arith, length-types fs, lt))
