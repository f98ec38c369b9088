-- The heads of the entries of mixins and factories.
use Rattle.std.specs.Prelude.{◌≡◌, List}
use Rattle.std.specs.Global.{Vec}
use Rattle.hb_base.specs.declared.name_id.NameId.{NameId}
use Rattle.hb_env.specs.declared.entry.Head.{Head}
use Rattle.hb_env.specs.declared.entry.Head.TheVariants as heads
use Rattle.hb_raw.specs.declared.word.Item.{Item}
use Rattle.hb_world.specs.Taking.{factory_names}
use Rattle.hb_mixin.specs.declared.declaring.Kind.{Kind}
use Rattle.hb_mixin.specs.declared.declaring.Kind.TheVariants as kinds

abbrev pub head_for : Kind → Vec NameId → Head
head_for kinds.Mixin items = heads.Mixin items
head_for kinds.Factory items = heads.Factory items

-- the head has the names of the items
abbrev pub HasNames : Kind → List Item → Head → Type 0
HasNames k is h = (v : Vec NameId) × (h ≡ head_for k v) × (v.items ≡ factory_names is)
