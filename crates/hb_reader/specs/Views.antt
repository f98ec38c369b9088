-- What the reader's values stand for.
use Rattle.std.specs.Prelude.{ℕ, ◌+◌, List, [], ◌∷◌, length}
use Rattle.hb_raw.specs.Preterm.{Group, untyped, typed}
use Rattle.hb_raw.specs.Views.{term, terms}
use Rattle.hb_grammar.specs.Part as shape
use Rattle.hb_grammar.specs.Grammar as grammar
use Rattle.hb_grammar.specs.Machine as plain
use Rattle.hb_reader.specs.declared.part.Part.{Part}
use Rattle.hb_reader.specs.declared.spine.Spine.{Spine}
use Rattle.hb_reader.specs.declared.spine.Before.{Before}
use Rattle.hb_reader.specs.declared.spine.Before.TheVariants.{First, Behind, Alone, Making}
use Rattle.hb_reader.specs.declared.frame.RecordOf.{RecordOf}
use Rattle.hb_reader.specs.declared.frame.InstanceOf.{InstanceOf}

abbrev pub part : Part → shape.Part
part p = record { term = term p.raw; extent = p.extent }

abbrev pub spine : Spine → grammar.Spine
spine s = record { head = part s.head; args = terms s.args.items; extent = s.extent }

abbrev pub before : Before → plain.Before
before First = plain.first
before (Behind s) = plain.behind (spine s)
before Alone = plain.alone
before (Making s) = plain.making (spine s)

abbrev pub record_of : RecordOf → plain.RecordOf
record_of r = record { kind = r.is_factory; start = r.start; name = r.name; carrier = r.carrier; items = r.items.items }

abbrev pub instance_of : InstanceOf → plain.InstanceOf
instance_of i = record { start = i.start; name = i.name; conditions = i.conditions.items }

-- how many names a group binds, and a list of groups
abbrev pub bound_by : Group → ℕ
bound_by (untyped xs) = length xs
bound_by (typed xs t) = length xs

abbrev pub bound_in : List Group → ℕ
bound_in [] = 0
bound_in (g ∷ gs) = bound_by g + bound_in gs
