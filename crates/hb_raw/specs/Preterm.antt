-- Preterms: terms as they are written, before names have a meaning. Names are their numbers; each
-- part has its place.
use Rattle.std.specs.Prelude.{ℕ, List, [], ◌∷◌, Option}
use Rattle.hb_base.specs.declared.name_id.NameId.{NameId}
use Rattle.hb_base.specs.declared.span.Span.{Span}

mutual
  -- a preterm, from its first to its last token
  pub data Preterm : Type 0 where
    preterm : Span → Form → Preterm

  pub data Form : Type 0 where
    name : NameId → Form
    -- `@n`
    bare : NameId → Form
    hole : Form
    prop : Form
    -- `Type@{k}`; each level above 63 is 64
    level : ℕ → Form
    product : Groups → Preterm → Form
    function : Groups → Preterm → Form
    arrow : Preterm → Preterm → Form
    applied : Preterm → Preterms → Form
    -- `t.(P)`
    projected : Preterm → NameId → Form
    -- `(t : T)`
    cast : Preterm → Preterm → Form

  -- arguments in the order of the text
  pub data Preterms : Type 0 where
    no_terms : Preterms
    term_then : Preterm → Preterms → Preterms

  -- bound names with their places, none for `_`, that share a written type, or have none
  pub data Group : Type 0 where
    untyped : List (Option NameId × Span) → Group
    typed : List (Option NameId × Span) → Preterm → Group

  pub data Groups : Type 0 where
    no_groups : Groups
    group_then : Group → Groups → Groups

abbrev pub preterms_of : List Preterm → Preterms
preterms_of [] = no_terms
preterms_of (t ∷ ts) = term_then t (preterms_of ts)

abbrev pub groups_of : List Group → Groups
groups_of [] = no_groups
groups_of (g ∷ gs) = group_then g (groups_of gs)
