-- A list whose items change one after another.
use Rattle.std.specs.Prelude.{◌≡◌, ℕ, ◌<◌, ◌≤◌, List, length, slice_index_or}

-- item k of the new list comes from that of the old one as R k says, for each k before n, and the rest
-- is as it was
pub record IsChanged {X : Type 0} (R : ℕ → X → X → Type 0) (d : X) (old new : List X) (n : ℕ) : Type 0 where
  pub long : length new ≡ length old
  pub done : (k : ℕ) → k < n → R k (slice_index_or old k d) (slice_index_or new k d)
  pub rest : (k : ℕ) → n ≤ k → slice_index_or new k d ≡ slice_index_or old k d
