-- Choices between optional values.
use Rattle.std.proofs.Common.{◌≡◌, refl, ap, sym, true≢false}
use Rattle.std.specs.Prelude.{Option, Some, None, option_map, unwrap_or, cond, true, false, Bool, ◌&&◌, IsSome}
use Rattle.std.specs.Option.{option_or}
use Rattle.std.proofs.lemmas.Option.{none-some}

-- an option that is either nothing or a value, with the equation
pub data Seen {A : Type 0} (o : Option A) : Type 0 where
  nothing : o ≡ None → Seen o
  just : (x : A) → o ≡ Some x → Seen o

pub seen : {A : Type 0} (o : Option A) → Seen o
seen None = nothing refl
seen (Some x) = just x refl

-- the second choice may be put for another that answers whatever it answers
pub or-second :
    {A : Type 0} (p q r : Option A) (u : A) → ((x : A) → q ≡ Some x → r ≡ Some x) → option_or p q ≡ Some u → option_or p r ≡ Some u
or-second None q r u k h = k u h
or-second (Some x) q r u k h = h

-- so may what is mapped, with a choice behind it
pub or-mapped :
    {A B : Type 0} (f : A → B) (q r : Option A) (z : Option B) (u : B) → ((x : A) → q ≡ Some x → r ≡ Some x)
    → option_map f q ≡ Some u → option_or (option_map f r) z ≡ Some u
or-mapped f None r z u k h = absurd (none-some u h)
or-mapped f (Some x) r z u k h = rw (k x refl) h

pub map-second :
    {A B : Type 0} (f : A → B) (q r : Option A) (u : B) → ((x : A) → q ≡ Some x → r ≡ Some x)
    → option_map f q ≡ Some u → option_map f r ≡ Some u
map-second f None r u k h = absurd (none-some u h)
map-second f (Some x) r u k h = rw (k x refl) h

pub Some-injective : {A : Type 0} (x y : A) → Some x ≡ Some y → x ≡ y
Some-injective x y e = ap (λ o. unwrap_or o x) e

-- a tested value: the test passed, or failed
pub cond-none : {A : Type 0} (b : Bool) (o : Option A) (u : A) → cond b None o ≡ Some u → (b ≡ false) × (o ≡ Some u)
cond-none true o u h = absurd (none-some u h)
cond-none false o u h = (refl, h)

pub cond-value : {A : Type 0} (b : Bool) (o : Option A) (u : A) → cond b o None ≡ Some u → (b ≡ true) × (o ≡ Some u)
cond-value true o u h = (refl, h)
cond-value false o u h = absurd (none-some u h)

pub both : (a b : Bool) → (a && b) ≡ true → (a ≡ true) × (b ≡ true)
both true b h = (refl, h)
both false b h = absurd (true≢false (sym h))

-- the value of a choice comes from its first part, or from the mapped second, or from the mapped third
pub one-of :
    {A B X : Type 0} (p : Option B) (f : A → B) (q : Option A) (z : Option B) (u : B) → (p ≡ Some u → X)
    → ((x : A) → q ≡ Some x → u ≡ f x → X) → (z ≡ Some u → X) → option_or p (option_or (option_map f q) z) ≡ Some u → X
one-of (Some v) f q z u k l m h = k h
one-of None f (Some x) z u k l m h = l x refl (sym (Some-injective (f x) u h))
one-of None f None z u k l m h = m h

pub of-mapped :
    {A B X : Type 0} (f : A → B) (q : Option A) (u : B) → ((x : A) → q ≡ Some x → u ≡ f x → X) → option_map f q ≡ Some u → X
of-mapped f None u k h = absurd (none-some u h)
of-mapped f (Some x) u k h = k x refl (sym (Some-injective (f x) u h))

pub either-of :
    {B X : Type 0} (p z : Option B) (u : B) → (p ≡ Some u → X) → (z ≡ Some u → X) → option_or p z ≡ Some u → X
either-of (Some v) z u k m h = k h
either-of None z u k m h = m h

-- a choice has a value where a part has
abbrev pub IsValue : {A : Type 0} → Option A → Type 0
IsValue {A} o = (x : A) × (o ≡ Some x)

pub or-value : {A : Type 0} (p z : Option A) → IsValue z → IsValue (option_or p z)
or-value None z h = h
or-value (Some x) z h = (x, refl)

pub or-value_first : {A : Type 0} (p z : Option A) → IsValue p → IsValue (option_or p z)
or-value_first None z h = absurd (none-some h.0 h.1)
or-value_first (Some x) z h = (x, refl)

pub map-value : {A B : Type 0} (f : A → B) (q : Option A) → IsValue q → IsValue (option_map f q)
map-value f None h = absurd (none-some h.0 h.1)
map-value f (Some x) h = (f x, refl)

pub is-value : {A : Type 0} (o : Option A) → IsSome o → (x : A) × (o ≡ Some x)
is-value None h = absurd (true≢false (sym h))
is-value (Some x) h = (x, refl)
