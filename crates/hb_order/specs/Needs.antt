-- What a carrier needs of its arguments, to have the mixins of a set.
use Rattle.std.specs.Prelude.{◌≡◌, ℕ, ◌<◌, ◌++◌, List, [], ◌∷◌, length, Option, None, Some}
use Rattle.hb_sets.specs.Set.{Set, In, Inside}
use Rattle.hb_order.specs.Heirs.{mix, IsHeir}
use Rattle.hb_order.specs.Allowed.{IsAllowed, AllAllowed}
use Rattle.hb_order.specs.Givings.{Giving, given, width, Asks}

-- structure s is declared, and an heir of each structure that was asked at place i for a mixin of x
pub record HoldsAsked (h : List Set) (gs : List Giving) (x : Set) (i s : ℕ) : Type 0 where
  pub declared : s < length h
  pub of_each : (m t : ℕ) → In x m → Asks gs m i t → IsHeir h s t

-- some structure was asked at place i for a mixin of x, and s has the least set that holds them all
pub record IsNeeded (h : List Set) (gs : List Giving) (x : Set) (i s : ℕ) : Type 0 where
  pub asked : (m : ℕ) × (t : ℕ) × In x m × Asks gs m i t
  pub holds : HoldsAsked h gs x i s
  pub least : (k : ℕ) → HoldsAsked h gs x i k → IsHeir h k s

-- the need at place i for the mixins of x: nothing where no structure was asked there
abbrev pub IsNeed : List Set → List Giving → Set → ℕ → Option ℕ → Type 0
IsNeed h gs x i None = (m t : ℕ) → In x m → ¬ (Asks gs m i t)
IsNeed h gs x i (Some s) = IsNeeded h gs x i s

-- the carrier takes x: it was given each mixin of x, and there is a need at each place
pub record Takes (h : List Set) (gs : List Giving) (x : Set) : Type 0 where
  pub gives : Inside x (given gs)
  pub needs : (i : ℕ) → i < width gs → (o : Option ℕ) × IsNeed h gs x i o

-- each structure that was asked of an argument is declared
abbrev pub AskedDeclared : List Set → List Giving → Type 0
AskedDeclared h gs = (m i t : ℕ) → Asks gs m i t → t < length h

-- nothing, or a structure that s is an heir of
abbrev pub IsNoneOrBelow : List Set → ℕ → Option ℕ → Type 0
IsNoneOrBelow h s None = Unit {0}
IsNoneOrBelow h s (Some t) = IsHeir h s t

-- the need o is nothing where the wider need is, and else nothing or one that the wider need is an heir of
abbrev pub NeedsLess : List Set → Option ℕ → Option ℕ → Type 0
NeedsLess h None o = o ≡ None
NeedsLess h (Some s) o = IsNoneOrBelow h s o

-- The law: where s is an heir of t, what takes the set of s takes that of t, and needs no more for it.
abbrev pub HeirsNeedLess : Type 0
HeirsNeedLess =
    (h : List Set) (gs : List Giving) → AllAllowed h → AskedDeclared h gs → (s t : ℕ) → IsHeir h s t → Takes h gs (mix h s)
    → Takes h gs (mix h t) × ((i : ℕ) (o p : Option ℕ) → IsNeed h gs (mix h s) i o → IsNeed h gs (mix h t) i p → NeedsLess h o p)

-- The law: a later structure that is allowed changes no need.
abbrev pub LaterStructuresKeepNeeds : Type 0
LaterStructuresKeepNeeds =
    (h : List Set) (gs : List Giving) → AllAllowed h → AskedDeclared h gs → (y : Set) → IsAllowed h y
    → (x : Set) (i : ℕ) (o : Option ℕ) → IsNeed h gs x i o → IsNeed (h ++ y ∷ []) gs x i o

-- The law: a later giving changes no need for mixins that the carrier had.
abbrev pub LaterGivingsKeepNeeds : Type 0
LaterGivingsKeepNeeds =
    (h : List Set) (gs : List Giving) (g : Giving) (x : Set) → Inside x (given gs)
    → (i : ℕ) (o : Option ℕ) → IsNeed h gs x i o → IsNeed h (gs ++ g ∷ []) x i o
