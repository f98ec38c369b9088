use Rattle.std.proofs.Common.{◌≡◌, sym, ap, IfSome, slice_get, Some, is_some, string_bytes}
use Rattle.hb_base.specs.Names.{is_named}
use Rattle.hb_base.proofs.NamesLemmas.{held, is_named-map}
use Rattle.hb_base.proofs.names.Names.place.Goals as goal

pub returns-clause-held : goal.returns-clause-held
returns-clause-held c =
    rw (← c.self.view_is) (held string_bytes c.args.text.now c.self.inside.texts.keys c.get_index_of.result c.get_index_of.ensures.index)

pub returns-clause-none : goal.returns-clause-none
returns-clause-none c =
    rw (← c.self.view_is, is_named-map string_bytes c.args.text.now c.self.inside.texts.keys) c.get_index_of.ensures.found
