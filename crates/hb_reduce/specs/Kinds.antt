-- What a former around a term needs to know of the term to have a step: its kind.
use Rattle.std.specs.Prelude.{◌≡◌, ℕ, ◌+◌, nat_lt, ◌==◌, ◌&&◌, Bool, true, false, cond, List, [], ◌∷◌, length, Option, Some, None, slice_get}
use Rattle.hb_tree.specs.Tree.{Tree, sort, rel, pi, lam, app, const, proj, hole}
use Rattle.hb_calculus.specs.Declarations.{Decl, Record, record_in}
use Rattle.hb_calculus.specs.Contraction.{contract, leftmost}
use Rattle.hb_reduce.specs.declared.former.Former.{Former}
use Rattle.hb_reduce.specs.declared.former.Former.TheVariants.{Product, Function, Application}
use Rattle.hb_reduce.specs.Frames.{Frame, left, right, under}

-- a function, the maker of the record at the place r with n arguments, or anything else
pub data Kind : Type 0 where
  neutral : Kind
  function : Kind
  built : (r n : ℕ) → Kind

-- the kind with one argument more
abbrev pub grown : Kind → Kind
grown neutral = neutral
grown function = neutral
grown (built r n) = built r (n + 1)

abbrev pub kind : Tree → Kind
kind (sort s) = neutral
kind (rel v) = neutral
kind (pi a b) = neutral
kind (lam a b) = function
kind (app f a) = grown (kind f)
kind (const c) = cond c.maker (built c.decl 0) neutral
kind (proj r i t) = neutral
kind (hole h) = neutral

-- the kind of a former whose first part has the kind k
abbrev pub kind_made : Former → Kind → Kind
kind_made Product k = neutral
kind_made Function k = function
kind_made Application k = grown k

-- whether an application of a term of the kind has a step, and a projection of it to field i
abbrev pub fires : Former → Kind → Bool
fires Application function = true
fires c k = false

-- the maker of the record at the place r, with n arguments
abbrev pub is_built : ℕ → ℕ → Kind → Bool
is_built r n (built s k) = (s == r) && (k == n)
is_built r n neutral = false
is_built r n function = false

abbrev pub is_full : Option Record → ℕ → ℕ → Kind → Bool
is_full (Some R) r i k = is_built r (length R.params + length R.fields) k && nat_lt i (length R.fields)
is_full None r i k = false

-- were a term of the kind k at the place: no former around it has a step, and no part to the left
abbrev pub IsClearFor : List Decl → List Frame → Kind → Type 0
IsClearFor E [] k = Unit {0}
IsClearFor E (left c b ∷ fs) k = (fires c k ≡ false) × IsClearFor E fs (kind_made c k)
IsClearFor E (right c a ∷ fs) k =
    (fires c (kind a) ≡ false) × (leftmost (contract E) a ≡ None) × IsClearFor E fs (kind_made c (kind a))
IsClearFor E (under r i ∷ fs) k = (is_full (record_in (slice_get E r.0)) r.0 i k ≡ false) × IsClearFor E fs neutral

-- whether a frame may have a step where another term is put in: an application or a projection
abbrev pub asks : Frame → Bool
asks (left Application b) = true
asks (left Product b) = false
asks (left Function b) = false
asks (right c a) = false
asks (under r i) = true

abbrev pub may_fire : List Frame → Bool
may_fire [] = false
may_fire (f ∷ fs) = asks f

-- the place is the head: functions of applications and projected terms lead to it
abbrev pub IsHeadPath : List Frame → Type 0
IsHeadPath [] = Unit {0}
IsHeadPath (f ∷ fs) = (asks f ≡ true) × IsHeadPath fs
