use Rattle.std.proofs.Common.{◌∙◌}
use Rattle.indexmap.proofs.CallerLemmas.{insert_entry-new}
use Rattle.hb_tables.proofs.tables.add.Goals as goal

pub returns-clause-added : goal.returns-clause-added
returns-clause-added g c = c.in_ok-insert.ensures.entries ∙ insert_entry-new g.K.PartialEq.eq c.args.map.now c.args.key c.args.value c.requires
