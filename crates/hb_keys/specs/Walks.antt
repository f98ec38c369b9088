-- Walks along a carrier for the first key that has a set. Each look at a term is a move.
use Rattle.std.specs.Prelude.{◌≡◌, ℕ, ◌+◌, ◌<◌, ◌≤◌, ◌⊎◌, Bool, true, false, ◌==◌, List, [], ◌∷◌, ◌++◌, length, Option, None, Some}
use Rattle.hb_sets.specs.Set.{Set}
use Rattle.hb_order.specs.Givings.{Giving}
use Rattle.hb_order.specs.Needs.{Takes, IsNeed}
use Rattle.hb_tree.specs.Tree.{Tree, args_of}
use Rattle.hb_tree.specs.declared.leaves.ConstId.{ConstId}
use Rattle.hb_calculus.specs.Budget.{TooLarge}
use Rattle.hb_calculus.specs.Contraction.{head_step}
use Rattle.hb_givings.specs.Givings.{givings_at, binder_count}
use Rattle.hb_hier.specs.Hierarchy.{sets}
use Rattle.hb_keys.specs.Setting.{Setting}
use Rattle.hb_keys.specs.Keys.{Key, constant, mixins_of, plain_key, head_constant, with_value, value_at}

-- what breaks a walk off: a term that is too large, of which the walk's first term is kept; no move left; no memory
pub data Stop : Type 0 where
  spent : Tree → Stop
  no_moves : Stop
  no_memory : Stop

-- how a walk ends, with the moves after it: the key and its term, no key, or a stop
pub data End : Type 0 where
  found : (k : Key) → (t : Tree) → (m : ℕ) → End
  missing : (m : ℕ) → End
  stops : Stop → End

-- how the look at one term ends: it is a key that has the set, or isn't
pub data Look : Type 0 where
  has : (k : Key) → (m : ℕ) → Look
  lacks : (m : ℕ) → Look
  look_stops : Stop → Look

-- how the looks at a key's arguments end: their values, or one has no key
pub data Looks : Type 0 where
  all_have : (values : Option (List Tree)) → (m : ℕ) → Looks
  one_lacks : (m : ℕ) → Looks
  looks_stop : Stop → Looks

-- what was given at the constant
abbrev pub givings_of : Setting → ConstId → List Giving
givings_of S k = givings_at S.hier.givings k

-- as many arguments as the instances at the constant have binders, if there are any
abbrev pub is_count : Option ℕ → ℕ → Bool
is_count None n = true
is_count (Some w) n = n == w

abbrev pub fits : List Giving → ℕ → Bool
fits gs n = is_count (binder_count gs) n

-- the needs of the first n arguments
pub data AreNeeds (S : Setting) (k : ConstId) (X : Set) : ℕ → List (Option ℕ) → Type 0 where
  no_need : AreNeeds S k X 0 []
  need_after :
      {n m : ℕ} {us vs : List (Option ℕ)} (o : Option ℕ) → AreNeeds S k X n us → IsNeed (sets S.hier) (givings_of S k) X n o
      → vs ≡ us ++ o ∷ [] → m ≡ n + 1 → AreNeeds S k X m vs

-- the constant takes the set with n arguments, of which each has its need
pub record NeedsAre (S : Setting) (k : ConstId) (X : Set) (n : ℕ) (us : List (Option ℕ)) : Type 0 where
  pub takes : Takes (sets S.hier) (givings_of S k) X
  pub fits_is : fits (givings_of S k) n ≡ true
  pub needs : AreNeeds S k X n us

-- the constant doesn't take the set with n arguments
abbrev pub TakesNot : Setting → ConstId → Set → ℕ → Type 0
TakesNot S k X n = (¬ Takes (sets S.hier) (givings_of S k) X) ⊎ (fits (givings_of S k) n ≡ false)

mutual
  -- From the term t of depth n on, after m moves, the walk that began at a ends so.
  pub data Walks (S : Setting) (n : ℕ) : Set → ℕ → Tree → Tree → End → Type 0 where
    walk_memory : {X : Set} {m : ℕ} {a t : Tree} → Walks S n X m a t (stops no_memory)
    walk_moves : {X : Set} {m : ℕ} {a t : Tree} → S.limits.steps ≤ m → Walks S n X m a t (stops no_moves)
    walk_large : {X : Set} {m : ℕ} {a t : Tree} → m < S.limits.steps → TooLarge S.limits t → Walks S n X m a t (stops (spent a))
    walk_found :
        {X : Set} {m k m' : ℕ} {a t : Tree} {key : Key} → m < S.limits.steps → ¬ TooLarge S.limits t → k ≡ m + 1
        → Tries S n X k t (has key m') → Walks S n X m a t (found key t m')
    walk_stops :
        {X : Set} {m k : ℕ} {a t : Tree} {s : Stop} → m < S.limits.steps → ¬ TooLarge S.limits t → k ≡ m + 1
        → Tries S n X k t (look_stops s) → Walks S n X m a t (stops s)
    walk_last :
        {X : Set} {m k m' : ℕ} {a t : Tree} → m < S.limits.steps → ¬ TooLarge S.limits t → k ≡ m + 1
        → Tries S n X k t (lacks m') → head_step S.env t ≡ None → Walks S n X m a t (missing m')
    walk_next :
        {X : Set} {m k m' : ℕ} {a t u : Tree} {e : End} → m < S.limits.steps → ¬ TooLarge S.limits t → k ≡ m + 1
        → Tries S n X k t (lacks m') → head_step S.env t ≡ Some u → Walks S n X m' a u e → Walks S n X m a t e

  -- after m moves, the look at t for the set ends so
  pub data Tries (S : Setting) (n : ℕ) : Set → ℕ → Tree → Look → Type 0 where
    try_plain : {X : Set} {m : ℕ} {t : Tree} {key : Key} → plain_key S n X t ≡ Some key → Tries S n X m t (has key m)
    try_other :
        {X : Set} {m : ℕ} {t : Tree} → plain_key S n X t ≡ None → head_constant t ≡ None → Tries S n X m t (lacks m)
    try_not :
        {X : Set} {m : ℕ} {t : Tree} {k : ConstId} → plain_key S n X t ≡ None → head_constant t ≡ Some k
        → TakesNot S k X (length (args_of t)) → Tries S n X m t (lacks m)
    try_has :
        {X : Set} {m m' : ℕ} {t : Tree} {k : ConstId} {ts : List Tree} {us : List (Option ℕ)} {bs : Option (List Tree)}
        → plain_key S n X t ≡ None → head_constant t ≡ Some k → ts ≡ args_of t → NeedsAre S k X (length ts) us
        → TriesAll S n (Some []) us ts m (all_have bs m') → Tries S n X m t (has (constant k us bs) m')
    try_lacks :
        {X : Set} {m m' : ℕ} {t : Tree} {k : ConstId} {ts : List Tree} {us : List (Option ℕ)}
        → plain_key S n X t ≡ None → head_constant t ≡ Some k → ts ≡ args_of t → NeedsAre S k X (length ts) us
        → TriesAll S n (Some []) us ts m (one_lacks m') → Tries S n X m t (lacks m')
    try_stops :
        {X : Set} {m : ℕ} {t : Tree} {k : ConstId} {ts : List Tree} {us : List (Option ℕ)} {s : Stop}
        → plain_key S n X t ≡ None → head_constant t ≡ Some k → ts ≡ args_of t → NeedsAre S k X (length ts) us
        → TriesAll S n (Some []) us ts m (looks_stop s) → Tries S n X m t (look_stops s)
    try_memory : {X : Set} {m : ℕ} {t : Tree} → Tries S n X m t (look_stops no_memory)

  -- after m moves, with the values bs of the arguments before, the looks at the arguments ts for their needs us end so
  pub data TriesAll (S : Setting) (n : ℕ) : Option (List Tree) → List (Option ℕ) → List Tree → ℕ → Looks → Type 0 where
    all_end : {bs : Option (List Tree)} {m : ℕ} → TriesAll S n bs [] [] m (all_have bs m)
    all_plain :
        {bs bs' : Option (List Tree)} {us : List (Option ℕ)} {t : Tree} {ts : List Tree} {m : ℕ} {e : Looks}
        → bs' ≡ with_value bs (Some t) → TriesAll S n bs' us ts m e → TriesAll S n bs (None ∷ us) (t ∷ ts) m e
    all_found :
        {bs bs' : Option (List Tree)} {U : ℕ} {us : List (Option ℕ)} {t u : Tree} {ts : List Tree} {m m' : ℕ} {X : Set} {key : Key} {e : Looks}
        → X ≡ mixins_of S U → Walks S n X m t t (found key u m') → bs' ≡ with_value bs (value_at S n U key)
        → TriesAll S n bs' us ts m' e → TriesAll S n bs (Some U ∷ us) (t ∷ ts) m e
    all_lack :
        {bs : Option (List Tree)} {U : ℕ} {us : List (Option ℕ)} {t : Tree} {ts : List Tree} {m m' : ℕ} {X : Set}
        → X ≡ mixins_of S U → Walks S n X m t t (missing m') → TriesAll S n bs (Some U ∷ us) (t ∷ ts) m (one_lacks m')
    all_stop :
        {bs : Option (List Tree)} {U : ℕ} {us : List (Option ℕ)} {t : Tree} {ts : List Tree} {m : ℕ} {X : Set} {s : Stop}
        → X ≡ mixins_of S U → Walks S n X m t t (stops s) → TriesAll S n bs (Some U ∷ us) (t ∷ ts) m (looks_stop s)
    all_memory :
        {bs : Option (List Tree)} {us : List (Option ℕ)} {ts : List Tree} {m : ℕ} → TriesAll S n bs us ts m (looks_stop no_memory)
