-- Preterms with their extents. A preterm's place is from the first to the last token of its own
-- production; its extent also has the parentheses around it.
use Rattle.std.specs.Prelude.{ℕ, List}
use Rattle.hb_base.specs.declared.name_id.NameId.{NameId}
use Rattle.hb_base.specs.declared.span.Span.{Span}
use Rattle.hb_raw.specs.declared.word.Word.{Word}
use Rattle.hb_raw.specs.Preterm.{Preterm, preterm, Form, name, bare, hole, prop, level, product, function, arrow, projected, cast, Group, groups_of}

pub record Part : Type 0 where
  pub term : Preterm
  pub extent : Span

-- from the beginning of a to the end of b
abbrev pub joined : Span → Span → Span
joined a b = record { file = a.file; from = a.from; to = b.to }

-- a production that is its own extent
abbrev pub whole : Span → Form → Part
whole s f = record { term = preterm s f; extent = s }

abbrev pub name_part : Word → Part
name_part w = whole w.span (name w.name)

abbrev pub bare_part : Span → Word → Part
bare_part x w = whole (joined x w.span) (bare w.name)

abbrev pub hole_part : Span → Part
hole_part x = whole x hole

abbrev pub prop_part : Span → Part
prop_part x = whole x prop

-- `Type` alone is `Type@{0}`
abbrev pub type_part : Span → Part
type_part x = whole x (level 0)

abbrev pub level_part : Part → ℕ → Span → Part
level_part t n z = whole (joined t.extent z) (level n)

-- a term in parentheses is the term inside
abbrev pub bracketed : Span → Part → Span → Part
bracketed x t z = record { term = t.term; extent = joined x z }

abbrev pub cast_part : Span → Part → Part → Span → Part
cast_part x t ty z = whole (joined x z) (cast t.term ty.term)

abbrev pub projected_part : Part → NameId → Span → Part
projected_part t n z = whole (joined t.extent z) (projected t.term n)

abbrev pub arrow_part : Part → Part → Part
arrow_part a b = whole (joined a.extent b.extent) (arrow a.term b.term)

abbrev pub product_part : Span → List Group → Part → Part
product_part x gs b = whole (joined x b.extent) (product (groups_of gs) b.term)

abbrev pub function_part : Span → List Group → Part → Part
function_part x gs b = whole (joined x b.extent) (function (groups_of gs) b.term)
