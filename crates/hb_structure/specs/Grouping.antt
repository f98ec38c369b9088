-- What a structure adds to the hierarchy.
use Rattle.std.specs.Prelude.{◌≡◌}
use Rattle.hb_env.specs.declared.entry.Head.{Head}
use Rattle.hb_env.specs.declared.entry.Head.TheVariants as heads
use Rattle.hb_raw.specs.Sentence.{Act, structure}
use Rattle.hb_hier.specs.Hierarchy.{Hierarchy}
use Rattle.hb_hier.specs.Declaring.{with_structure}
use Rattle.hb_world.specs.Taking.{factory_names}

-- the second hierarchy is the first with the structure of the command, and of no other command
abbrev pub HasStructure : Act → Hierarchy → Hierarchy → Type 0
HasStructure (structure n c is) h h' = h' ≡ with_structure h n.name (factory_names is)
HasStructure _ h h' = ⊥

-- the same of the structure of an entry
abbrev pub HasStructureOf : Head → Hierarchy → Hierarchy → Type 0
HasStructureOf (heads.Structure n v) h h' = h' ≡ with_structure h n v.items
HasStructureOf _ h h' = ⊥
