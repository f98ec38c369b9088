-- Mixins of a list, one after another.
use Rattle.std.proofs.Common.{◌≡◌, ◌∙◌, sym, ap, ℕ, ◌+◌, ◌-◌, ◌<◌, List, [], ◌∷◌, ◌++◌, length, map, drop, get_or, append_assoc, max}
use Rattle.std.specs.Prelude.{fold}
use Rattle.std.proofs.lemmas.List.{drop_more, get_or-map, map-append}
use Rattle.hb_base.specs.declared.name_id.NameId.{NameId}
use Rattle.hb_term.specs.declared.term.Term.{Term}
use Rattle.hb_term.specs.Meaning.{tree}
use Rattle.hb_env.specs.Plain.{trees, plain_fields, plain_field}
use Rattle.hb_tree.specs.Tree.{Tree, rel}
use Rattle.hb_calculus.specs.Declarations.{Decl, field_types}
use Rattle.hb_hier.specs.Hierarchy.{Hierarchy}
use Rattle.hb_paths.specs.Packs.{index_in}
use Rattle.hb_generated.specs.Reading.{a_mixin, applied_at, dependent_from, dependent}

-- the term of mixin m at the place j of the list
abbrev pub type_at : List Decl → Hierarchy → List ℕ → ℕ → ℕ → Tree
type_at E h all m j = applied_at E h (a_mixin m) (rel j) (λ d. rel (j - 1 - index_in all d))

-- what is done, and what the list gives from place j on, are the whole
abbrev pub IsRest : List Decl → Hierarchy → (ℕ → ℕ) → List ℕ → List (ℕ × Tree) → ℕ → Type 0
IsRest E h name all done j = done ++ dependent_from E h name all j (drop j all) ≡ dependent E h name all

pub field_turn : (E : List Decl) (h : Hierarchy) (name : ℕ → ℕ) (all : List ℕ) (done : List (NameId × Term)) (j : ℕ) (f : NameId × Term) → j < length all → f.0.0 ≡ name (get_or all j 0) → tree f.1 ≡ type_at E h all (get_or all j 0) j → IsRest E h name all (plain_fields done) j → IsRest E h name all (plain_fields (done ++ f ∷ [])) (j + 1)
field_turn E h name all done j f lt is_name is_type is =
    let m = get_or all j 0 in
    let more = dependent_from E h name all (j + 1) (drop (j + 1) all) in
    ap (λ l. l ++ more) (map-append plain_field done (f ∷ []))
    ∙ append_assoc (plain_fields done) (plain_field f ∷ []) more
    ∙ ap (λ x. plain_fields done ++ x ∷ more) (let e : plain_field f ≡ (name m, type_at E h all m j) = cc in e)
    ∙ ap (λ l. plain_fields done ++ dependent_from E h name all j l) (sym (drop_more all j 0 lt))
    ∙ is

-- the same for the types alone
abbrev pub AreTypesLeft : List Decl → Hierarchy → List ℕ → List Tree → List Tree → ℕ → Type 0
AreTypesLeft E h all whole done j = done ++ field_types (dependent_from E h (λ m. 0) all j (drop j all)) ≡ whole

pub type_turn : (E : List Decl) (h : Hierarchy) (all : List ℕ) (whole : List Tree) (done : List Term) (j : ℕ) (t : Term) → j < length all → tree t ≡ type_at E h all (get_or all j 0) j → AreTypesLeft E h all whole (trees done) j → AreTypesLeft E h all whole (trees (done ++ t ∷ [])) (j + 1)
type_turn E h all whole done j t lt is_type is =
    let more = field_types (dependent_from E h (λ m. 0) all (j + 1) (drop (j + 1) all)) in
    ap (λ l. l ++ more) (map-append tree done (t ∷ []))
    ∙ append_assoc (trees done) (tree t ∷ []) more
    ∙ ap (λ x. trees done ++ x ∷ more) is_type
    ∙ ap (λ l. trees done ++ field_types (dependent_from E h (λ m. 0) all j l)) (sym (drop_more all j 0 lt))
    ∙ is

pub name_at : (names : List NameId) (name : ℕ → ℕ) (all : List ℕ) (j : ℕ) (d : NameId) → map (λ x. x.0) names ≡ map name all → j < length names → j < length all → (get_or names j d).0 ≡ name (get_or all j 0)
name_at names name all j d e lt lt' =
    sym (get_or-map (λ (x : NameId). x.0) names j d 0 lt) ∙ ap (λ l. get_or l j 0) e ∙ get_or-map name all j 0 0 lt'

-- the greatest of the levels
pub level_turn : (f : ℕ → ℕ) (ms : List ℕ) (i k new whole : ℕ) → i < length ms → new ≡ max k (f (get_or ms i 0)) → fold (λ k m. max k (f m)) k (drop i ms) ≡ whole → fold (λ k m. max k (f m)) new (drop (i + 1) ms) ≡ whole
level_turn f ms i k new whole lt e is =
    ap (λ x. fold (λ k m. max k (f m)) x (drop (i + 1) ms)) e ∙ ap (λ l. fold (λ k m. max k (f m)) k l) (sym (drop_more ms i 0 lt)) ∙ is
