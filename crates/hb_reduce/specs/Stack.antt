-- The frames that layers stand for, and their counts.
use Rattle.std.specs.Prelude.{◌≡◌, ℕ, ◌-◌, ◌^◌, min, List, [], ◌∷◌}
use Rattle.hb_reduce.specs.Frames.{Frame, left, right, under, around, reach}
use Rattle.hb_reduce.specs.declared.frames.Layer.{Layer}
use Rattle.hb_reduce.specs.declared.side.Side.{Side}
use Rattle.hb_reduce.specs.declared.side.Side.TheVariants.{Left, Right, Under}

abbrev pub frame : Side → Frame
frame (Left c b) = left c b
frame (Right c a) = right c a
frame (Under r i) = under r i

-- layers in the order in which they were put on, on top of the frames fs
abbrev pub stack : List Frame → List Layer → List Frame
stack fs [] = fs
stack fs (x ∷ xs) = stack (frame x.side ∷ fs) xs

-- n and d are the nodes and the reach of the frames, up to the ends of their types
pub record AreCounts (fs : List Frame) (n d : ℕ) : Type 0 where
  pub nodes_are : n ≡ min (around fs) (2 ^ 64 - 1)
  pub reach_is : d ≡ min (reach fs) (2 ^ 32 - 1)

-- each layer has the counts of those below it, and n and d are the counts of all
abbrev pub AreCounted : List Frame → List Layer → ℕ → ℕ → Type 0
AreCounted fs [] n d = AreCounts fs n d
AreCounted fs (x ∷ xs) n d = AreCounts fs x.around x.reach × AreCounted (frame x.side ∷ fs) xs n d
