-- What the scans of a list of structures find, part by part.
use Rattle.std.specs.Prelude.{◌≡◌, ℕ, ◌<◌, List, length, Option, Some}
use Rattle.hb_sets.specs.Set.{Set, In}
use Rattle.hb_order.specs.declared.ids.StructId.{StructId}
use Rattle.hb_order.specs.Heirs.{IsHeir, IsCommonHeir}
use Rattle.hb_order.specs.Allowed.{IsMissing, NoneMissingWith}
use Rattle.hb_order.specs.Givings.{Giving, Asks, binder}
use Rattle.hb_order.specs.Needs.{HoldsAsked, IsNeed}

-- where k is a common heir of a and b, it has the mixins of j
abbrev pub IsPast : List Set → ℕ → ℕ → ℕ → ℕ → Type 0
IsPast h a b j k = IsCommonHeir h a b k → IsHeir h k j

-- so has each common heir
abbrev pub IsBelowHeirs : List Set → ℕ → ℕ → ℕ → Type 0
IsBelowHeirs h a b j = (k : ℕ) → IsPast h a b j k

-- b is the first after a whose join j with a is missing in x
pub record IsFirstWith (h : List Set) (x : Set) (a b j : ℕ) : Type 0 where
  pub later : a < b
  pub declared : b < length h
  pub missing : IsMissing h x a b j
  pub with_a : NoneMissingWith h x a b

-- no join of one before n with a later one is missing in x
abbrev pub NoneMissing : List Set → Set → ℕ → Type 0
NoneMissing h x n = (a : ℕ) → a < n → NoneMissingWith h x a (length h)

-- the structure that the binders ask at place i, if any, is declared before the n-th
abbrev pub IsBinderBelow : ℕ → List (Option StructId) → ℕ → Type 0
IsBinderBelow n binders i = (t : ℕ) → binder binders i ≡ Some t → t < n

-- some structure was asked at place i for a mixin of x
abbrev pub IsAsked : List Giving → Set → ℕ → Type 0
IsAsked gs x i = (m : ℕ) × (t : ℕ) × In x m × Asks gs m i t

-- one was asked for m
abbrev pub IsAskedFor : List Giving → Set → ℕ → ℕ → Type 0
IsAskedFor gs x i m = (t : ℕ) × In x m × Asks gs m i t

-- s is an heir of what was asked for m
abbrev pub HoldsFor : List Set → List Giving → ℕ → ℕ → ℕ → Type 0
HoldsFor h gs i s m = (t : ℕ) → Asks gs m i t → IsHeir h s t

-- where k holds what was asked, it has the mixins of s
abbrev pub IsPastHolder : List Set → List Giving → Set → ℕ → ℕ → ℕ → Type 0
IsPastHolder h gs x i s k = HoldsAsked h gs x i k → IsHeir h k s

-- so has each that holds it
abbrev pub IsBelowHolders : List Set → List Giving → Set → ℕ → ℕ → Type 0
IsBelowHolders h gs x i s = (k : ℕ) → IsPastHolder h gs x i s k

-- there is a need at place i
abbrev pub HasNeed : List Set → List Giving → Set → ℕ → Type 0
HasNeed h gs x i = (o : Option ℕ) × IsNeed h gs x i o
