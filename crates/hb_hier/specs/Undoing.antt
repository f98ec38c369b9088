-- Marks of a hierarchy, and the way back to them.
use Rattle.std.specs.Prelude.{◌≡◌, ℕ, ◌≤◌, Bool, true, false, nat_lt, List, ◌++◌, length, take, filter}
use Rattle.std.specs.List.{list_all, list_any}
use Rattle.hb_givings.specs.Givings.{Given}
use Rattle.hb_hier.specs.declared.known.HierMark.{HierMark}
use Rattle.hb_hier.specs.declared.known.Known.{Known}
use Rattle.hb_hier.specs.declared.known.Known.TheVariants.{Mixin, Factory, Structure}
use Rattle.hb_hier.specs.Hierarchy.{Hierarchy, Declared, Ended, Grouped}
use Rattle.hb_hier.specs.Giving.{AllBindersBelow}

-- the lengths of the lists
abbrev pub mark_of : Hierarchy → HierMark
mark_of h = record {
  mixins = length h.mixins;
  factories = length h.factories;
  ended = length h.endings;
  structures = length h.structures;
  givings = length h.givings;
}

-- what was declared is among so many, and among those that the mark keeps
abbrev pub is_listed : ℕ → ℕ → ℕ → Known → Bool
is_listed mixins factories structures (Mixin m) = nat_lt m.0 mixins
is_listed mixins factories structures (Factory f) = nat_lt f.0 factories
is_listed mixins factories structures (Structure s) = nat_lt s.0 structures

abbrev pub is_kept : HierMark → Known → Bool
is_kept mark k = is_listed mark.mixins mark.factories mark.structures k

-- so many of each list as the mark says
abbrev pub cut : Hierarchy → HierMark → Hierarchy
cut h mark = record {
  order = filter (is_kept mark) h.order;
  mixins = take mark.mixins h.mixins;
  factories = take mark.factories h.factories;
  endings = take mark.ended h.endings;
  structures = take mark.structures h.structures;
  givings = take mark.givings h.givings;
}

-- each of the order is among so many
abbrev pub AllListed : ℕ → ℕ → ℕ → List Known → Type 0
AllListed mixins factories structures order = list_all (is_listed mixins factories structures) order ≡ true

-- what the mark keeps can stand alone: each structure that a kept instance asks is kept
pub record CanStand (h : Hierarchy) (mark : HierMark) : Type 0 where
  pub givings : mark.givings ≤ length h.givings
  pub asked : AllBindersBelow mark.structures (take mark.givings h.givings)

-- what is in the order is declared, and each structure that an instance asks
pub record IsWhole (h : Hierarchy) : Type 0 where
  pub ordered : AllListed (length h.mixins) (length h.factories) (length h.structures) h.order
  pub asked : AllBindersBelow (length h.structures) h.givings

-- the second is the first with more after each list
pub record Grew (old new : Hierarchy) : Type 0 where
  pub order : List Known
  pub mixins : List Declared
  pub factories : List Declared
  pub endings : List Ended
  pub structures : List Grouped
  pub givings : List Given
  pub order_is : new.order ≡ old.order ++ order
  pub mixins_are : new.mixins ≡ old.mixins ++ mixins
  pub factories_are : new.factories ≡ old.factories ++ factories
  pub endings_are : new.endings ≡ old.endings ++ endings
  pub structures_are : new.structures ≡ old.structures ++ structures
  pub givings_are : new.givings ≡ old.givings ++ givings
  pub order_new : list_any (is_kept (mark_of old)) order ≡ false
