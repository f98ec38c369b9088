-- The heads of the entries of instances.
use Rattle.std.specs.Prelude.{◌≡◌, List, Option}
use Rattle.std.specs.Global.{Vec}
use Rattle.hb_base.specs.declared.name_id.NameId.{NameId}
use Rattle.hb_env.specs.declared.entry.Head.{Head}
use Rattle.hb_env.specs.declared.entry.Head.TheVariants as heads
use Rattle.hb_raw.specs.declared.word.Word.{Word}
use Rattle.hb_world.specs.Taking.{binder_names}

-- the head has the factory, the carrier, and the names of the binders' structures
abbrev pub HasNames : NameId → NameId → List (Word × Option Word) → Head → Type 0
HasNames f k binders h = (v : Vec (Option NameId)) × (h ≡ heads.Instance f k v) × (v.items ≡ binder_names binders)
