-- The first pair of structures with a missing join, for a fixed first one.
use Rattle.std.specs.Prelude.{ℕ, ◌<◌, List, length}
use Rattle.hb_sets.specs.Set.{Set}
use Rattle.hb_order.specs.Allowed.{IsMissing, NoneMissingWith}

-- b is the first after a whose join j with a is missing in x
pub record IsFirstWith (h : List Set) (x : Set) (a b j : ℕ) : Type 0 where
  pub later : a < b
  pub declared : b < length h
  pub missing : IsMissing h x a b j
  pub with_a : NoneMissingWith h x a b
