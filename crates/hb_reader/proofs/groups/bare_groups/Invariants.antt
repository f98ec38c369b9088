use Rattle.std.proofs.Common.{◌≡◌, take}
use Rattle.hb_raw.specs.Views.{groups}
use Rattle.hb_grammar.specs.Machine as plain
use Rattle.hb_reader.specs.Views.{bound_in}
use Rattle.hb_reader.proofs.groups.bare_groups.Given as goal

abbrev pub invariant-loop-name : goal.invariant-loop-name
invariant-loop-name l =
    (groups l.gs.items ≡ plain.bare_groups (take l.name-index l.names.items)) × (bound_in (groups l.gs.items) ≡ l.name-index)
