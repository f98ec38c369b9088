use Rattle.std.proofs.Common.{◌<◌, rules}
use Rattle.hb_env.specs.Plain.{plains}
use Rattle.hb_env.proofs.TableLemmas.{entry_tells, entry_read}
use Rattle.hb_env.proofs.env.Env.lookup.Goals as goal

pub returns-clause-none : goal.returns-clause-none
returns-clause-none c =
    let l : c.args.name.0 < 65536 = search rules in
    let E = plains c.self.inside.decls.items in
    let e = entry_read E c.self.inside.table.items c.args.name.0 c.from.result c.index.result.now c.self.invariant.found c.from.ensures l c.index.ensures in
    rw (← c.self.view_is) (entry_tells E c.args.name.0 c.index.result.now e)
