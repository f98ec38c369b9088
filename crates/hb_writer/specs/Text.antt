-- The text of a term. A variable is written by the number of binders outside of its own, and an arrow
-- counts as a binder.
use Rattle.std.specs.Prelude.{ℕ, ◌+◌, ◌-◌, Bool, true, false, cond, List, [], ◌∷◌, ◌++◌, Option, None, Some, map, option_map, slice_get, codes}
use Rattle.hb_base.specs.declared.name_id.NameId.{NameId}
use Rattle.std.specs.Fmt.{decimal}
use Rattle.hb_tree.specs.Tree.{Tree, sort, rel, pi, lam, app, const, proj, hole, occurs}
use Rattle.hb_tree.specs.declared.leaves.Sort.{Sort}
use Rattle.hb_tree.specs.declared.leaves.Sort.TheVariants.{Prop, Level}
use Rattle.hb_calculus.specs.Declarations.{Decl}
use Rattle.hb_env.specs.Naming.{const_name, field_name}

-- pieces one after another
abbrev pub joined : List (List ℕ) → List ℕ
joined [] = []
joined (p ∷ []) = p
joined (p ∷ q ∷ ps) = p ++ joined (q ∷ ps)

abbrev pub sort_text : Sort → List ℕ
sort_text Prop = codes "Prop"
sort_text (Level k) = joined (codes "Type@{" ∷ decimal k ∷ codes "}" ∷ [])

-- the variable whose binder stands inside of d others
abbrev pub variable_text : ℕ → List ℕ
variable_text d = joined (codes "_" ∷ decimal d ∷ [])

-- what has no name is written by the number of its declaration
abbrev pub number_text : ℕ → List ℕ
number_text k = joined (codes "!" ∷ decimal k ∷ [])

abbrev pub text_or_number : Option (List ℕ) → ℕ → List ℕ
text_or_number (Some text) k = text
text_or_number None k = number_text k

-- the text of the name n of declaration k, if there is one
abbrev pub name_text : List (List ℕ) → Option ℕ → ℕ → List ℕ
name_text N (Some n) k = text_or_number (slice_get N n) k
name_text N None k = number_text k

-- The outermost variables may have names, as the earlier fields of a record have in the types of the
-- later ones: B tells them, the outermost first.
abbrev pub at_bound : Option (Option ℕ) → Option ℕ
at_bound (Some b) = b
at_bound None = None

abbrev pub bound_name : List (Option ℕ) → ℕ → Option ℕ
bound_name [] d = None
bound_name (b ∷ bs) d = at_bound (slice_get (b ∷ bs) d)

abbrev pub bound_names : List (Option NameId) → List (Option ℕ)
bound_names bs = map (option_map (λ n. n.0)) bs

abbrev pub bound_text : List (List ℕ) → Option ℕ → ℕ → List ℕ
bound_text N (Some n) d = text_or_number (slice_get N n) n
bound_text N None d = variable_text d

-- whether a term is a product or a function
abbrev pub is_binder : Tree → Bool
is_binder (sort s) = false
is_binder (rel v) = false
is_binder (pi a b) = true
is_binder (lam a b) = true
is_binder (app f a) = false
is_binder (const c) = false
is_binder (proj r i t) = false
is_binder (hole h) = false

-- whether it is one of these, or an application
abbrev pub is_compound : Tree → Bool
is_compound (sort s) = false
is_compound (rel v) = false
is_compound (pi a b) = true
is_compound (lam a b) = true
is_compound (app f a) = true
is_compound (const c) = false
is_compound (proj r i t) = false
is_compound (hole h) = false

-- a parenthesis, where it is wanted
abbrev pub opening : Bool → List ℕ
opening w = cond w (codes "(") (codes "")

abbrev pub closing : Bool → List ℕ
closing w = cond w (codes ")") (codes "")

-- a binder of this word, at depth d, with its type, its sign and what it is over
abbrev pub binder_text : (word sign : List ℕ) → ℕ → (type body : List ℕ) → List ℕ
binder_text word sign d type body = joined (word ∷ decimal d ∷ codes " : " ∷ type ∷ sign ∷ body ∷ [])

-- a product whose variable isn't used is an arrow
abbrev pub product_text : (used left : Bool) → ℕ → (domain codomain : List ℕ) → List ℕ
product_text true left d domain codomain = binder_text (codes "forall _") (codes ", ") d domain codomain
product_text false left d domain codomain = joined (opening left ∷ domain ∷ closing left ∷ codes " -> " ∷ codomain ∷ [])

-- the projection of a field out of a value
abbrev pub projection_text : (compound : Bool) → (value field : List ℕ) → List ℕ
projection_text compound value field = joined (opening compound ∷ value ∷ closing compound ∷ codes ".(" ∷ field ∷ codes ")" ∷ [])

-- the text of a term under d binders, of which the outermost have the names B, with these names and
-- this environment
abbrev pub text_in : List (List ℕ) → List Decl → List (Option ℕ) → ℕ → Tree → List ℕ
text_in N E B d (sort s) = sort_text s
text_in N E B d (rel v) = bound_text N (bound_name B (d - 1 - v)) (d - 1 - v)
text_in N E B d (pi a b) = product_text (occurs b 0) (is_binder a) d (text_in N E B d a) (text_in N E B (d + 1) b)
text_in N E B d (lam a b) = binder_text (codes "fun _") (codes " => ") d (text_in N E B d a) (text_in N E B (d + 1) b)
text_in N E B d (app f a) =
    joined (opening (is_binder f) ∷ text_in N E B d f ∷ closing (is_binder f) ∷ codes " " ∷ opening (is_compound a) ∷ text_in N E B d a ∷ closing (is_compound a) ∷ [])
text_in N E B d (const c) = name_text N (const_name (slice_get E c.decl) c) c.decl
text_in N E B d (proj r i t) = projection_text (is_compound t) (text_in N E B d t) (name_text N (field_name (slice_get E r.0) i) r.0)
text_in N E B d (hole h) = joined (codes "?" ∷ decimal h ∷ [])

-- the text of a term under d binders without names
abbrev pub text : List (List ℕ) → List Decl → ℕ → Tree → List ℕ
text N E d t = text_in N E [] d t
