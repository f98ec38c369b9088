-- Keys, and the values that they have for a structure.
use Rattle.std.specs.Prelude.{◌≡◌, refl, ℕ, zero, suc, ◌+◌, ◌-◌, Bool, true, false, cond, ◌==◌, ◌&&◌, List, [], ◌∷◌, ◌++◌, Option, None, Some, is_none, option_map}
use Rattle.hb_sets.specs.Set.{Set, is_subset, contains}
use Rattle.hb_order.specs.Heirs.{mix}
use Rattle.hb_order.specs.declared.ids.StructId.{StructId}
use Rattle.hb_tree.specs.Tree.{Tree, rel, app, const, proj, lift, head_of, apply}
use Rattle.hb_tree.specs.declared.leaves.ConstId.{ConstId}
use Rattle.hb_tree.specs.declared.leaves.RecId.{RecId}
use Rattle.hb_calculus.specs.Telescopes.{maker}
use Rattle.hb_hier.specs.Hierarchy.{sets}
use Rattle.hb_tables.specs.Maps.{Maps, records_of, structure_of, coercion_of, entry_of}
use Rattle.hb_keys.specs.Setting.{Setting, Local}

-- A key of a carrier: a constant, with the structure that each argument needs and the values of the arguments;
-- the local carrier; or the value u where the carrier is `u.(U.sort)`. The values are none where the tables lack one.
pub data Key : Type 0 where
  constant : (k : ConstId) → (needs : List (Option ℕ)) → (values : Option (List Tree)) → Key
  local : Key
  value : (structure : ℕ) → (u : Tree) → Key

-- no mixin has this number or a greater one (its value plays no part)
pub most : ℕ
most = 1024

pub most-is : most ≡ 1024
unfolding most
most-is = refl

-- the structure of that number
abbrev pub struct_id : ℕ → StructId
struct_id s = record { 0 = s }

-- the mixins of structure s
abbrev pub mixins_of : Setting → ℕ → Set
mixins_of S s = mix (sets S.hier) s

-- the term of mixin m among those that a local carrier has
abbrev pub term_in : List (ℕ × Tree) → ℕ → Option Tree
term_in [] m = None
term_in (g ∷ gs) m = cond (g.0 == m) (Some g.1) (term_in gs m)

-- one value more at the end; none where one is lacking
abbrev pub with_value : Option (List Tree) → Option Tree → Option (List Tree)
with_value None o = None
with_value (Some bs) None = None
with_value (Some bs) (Some b) = Some (bs ++ b ∷ [])

abbrev pub cons : Option Tree → Option (List Tree) → Option (List Tree)
cons None o = None
cons (Some t) None = None
cons (Some t) (Some ts) = Some (t ∷ ts)

-- the terms of the members of a set below n, by a term for each; none where one is lacking
abbrev pub all_terms : (ℕ → Option Tree) → Set → ℕ → Option (List Tree)
all_terms term X zero = Some []
all_terms term X (suc n) = cond (contains X n) (with_value (all_terms term X n) (term n)) (all_terms term X n)

-- whether each member of the set below n has a term
abbrev pub has_terms : List (ℕ × Tree) → Set → ℕ → Bool
has_terms given X zero = true
has_terms given X (suc n) = cond (contains X n && is_none (term_in given n)) false (has_terms given X n)

-- how many members of the set are below n
abbrev pub rank : Set → ℕ → ℕ
rank X zero = 0
rank X (suc n) = cond (contains X n) (rank X n + 1) (rank X n)

-- whether a variable of a term of depth n is the local carrier, which has a term for each member of the set
abbrev pub local_key : Option Local → ℕ → Set → ℕ → Option Key
local_key None n X v = None
local_key (Some c) n X v = cond ((v + c.level + 1 == n) && has_terms c.given X most) (Some local) None

-- `u.(U.sort)`: U, where the record is that of a structure and the field is the first
abbrev pub value_key : Setting → Option StructId → Set → ℕ → Tree → Option Key
value_key S None X i u = None
value_key S (Some U) X i u = cond ((i == 0) && is_subset X (mixins_of S U.0)) (Some (value U.0 u)) None

-- the key that a term of depth n is and that has the set, but for constants
abbrev pub plain_key : Setting → ℕ → Set → Tree → Option Key
plain_key S n X (rel v) = local_key S.local n X v
plain_key S n X (proj r i u) = value_key S (structure_of S.tables r) X i u
plain_key S n X t = None

-- the constant at the head of its arguments
abbrev pub constant_of : Tree → Option ConstId
constant_of (const c) = Some c
constant_of t = None

abbrev pub head_constant : Tree → Option ConstId
head_constant t = constant_of (head_of t)

-- the value of structure s at a local carrier, in a term of depth n
abbrev pub packed : Option (RecId × RecId) → Tree → Option (List Tree) → Option Tree
packed None A ts = None
packed (Some r) A None = None
packed (Some r) A (Some ts) = Some (apply (maker r.1.0) (A ∷ apply (maker r.0.0) (A ∷ ts) ∷ []))

abbrev pub local_term : ℕ → Local → ℕ → Option Tree
local_term n c m = option_map (λ t. lift t (n - c.depth) 0) (term_in c.given m)

abbrev pub local_value : Setting → ℕ → ℕ → Option Local → Option Tree
local_value S n s None = None
local_value S n s (Some c) =
    packed (records_of S.tables (struct_id s)) (rel (n - 1 - c.level)) (all_terms (local_term n c) (mixins_of S s) most)

-- a value of structure a brought to structure b
abbrev pub brought : Maps → ℕ → ℕ → Tree → Option Tree
brought T a b u = cond (a == b) (Some u) (option_map (λ c. app (const c) u) (coercion_of T (struct_id a) (struct_id b)))

-- the constant applied to the values
abbrev pub applied : Option ConstId → Option (List Tree) → Option Tree
applied None bs = None
applied (Some c) None = None
applied (Some c) (Some bs) = Some (apply (const c) bs)

-- the value of structure s at a key of a term of depth n; none where the tables lack what it is made of
abbrev pub value_at : Setting → ℕ → ℕ → Key → Option Tree
value_at S n s (constant k us bs) = applied (entry_of S.tables (struct_id s) k) bs
value_at S n s local = local_value S n s S.local
value_at S n s (value U u) = brought S.tables U s u
