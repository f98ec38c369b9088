-- What a stack of frames keeps of itself.
use Rattle.std.specs.Prelude.{◌≡◌, ℕ, List, ◌⊎◌}
use Rattle.std.proofs.Common.{inl, inr, refl}
use Rattle.std.specs.Coded.{Coded, code_by, coded×, coded⊎, coded_ℕ, coded_list}
use Rattle.hb_tree.specs.Tree.{Tree}
use Rattle.hb_tree.specs.Code.{coded_tree}
use Rattle.hb_tree.specs.declared.leaves.RecId.{RecId}
use Rattle.hb_tree.specs.contracts.leaves.RecId as records
use Rattle.hb_reduce.specs.declared.former.Former.{Former}
use Rattle.hb_reduce.specs.contracts.former.Former as formers
use Rattle.hb_reduce.specs.Frames.{Frame, left, right, under}

-- how the logic stores frames
abbrev pub Parts : Type 0
Parts = (Former × Tree) ⊎ ((Former × Tree) ⊎ (RecId × ℕ))

abbrev pub parts : Frame → Parts
parts (left c b) = inl (c, b)
parts (right c a) = inr (inl (c, a))
parts (under r i) = inr (inr (r, i))

abbrev pub from_parts : Parts → Frame
from_parts (inl p) = left p.0 p.1
from_parts (inr (inl p)) = right p.0 p.1
from_parts (inr (inr p)) = under p.0 p.1

pub from_parts-parts : (f : Frame) → from_parts (parts f) ≡ f
from_parts-parts (left c b) = refl
from_parts-parts (right c a) = refl
from_parts-parts (under r i) = refl

abbrev pub coded_frames : Coded (List Frame)
coded_frames =
    coded_list
    (code_by
    Parts
    (coded⊎ (coded× formers.the_row.coded coded_tree) (coded⊎ (coded× formers.the_row.coded coded_tree) (coded× records.the_row.coded coded_ℕ)))
    parts
    from_parts
    from_parts-parts)
