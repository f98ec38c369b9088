use Rattle.std.proofs.Common.{◌∙◌, sym, ap, is_some}
use Rattle.hb_env.specs.Plain.{plain}
use Rattle.hb_pack.proofs.TakenLemmas.{entry_none, entry_some}
use Rattle.hb_pack.proofs.taken.entry_of.Goals as goal

pub returns-then-not-takes-clause-entry : goal.returns-then-not-takes-clause-entry
returns-then-not-takes-clause-entry c N p =
    entry_none N c.args.env.now c.args.tables.now c.args.hier.now c.args.carrier c.args.t.0 _ (ap is_some (sym c.entry.ensures) ∙ sym c.is_some.ensures ∙ c.if-is_some.false) (sym c.takes.ensures.value ∙ c.if-not-takes.true)

pub returns-clause-entry : goal.returns-clause-entry
returns-clause-entry c N p =
    entry_some N c.args.env.now c.args.tables.now c.args.hier.now c.args.carrier c.args.t.0 _ (plain c.in_ok-decl.decl) (ap is_some (sym c.entry.ensures) ∙ sym c.is_some.ensures ∙ c.if-is_some.false) (sym c.takes.ensures.value ∙ c.if-not-takes.false) (c.in_ok-decl.ensures.instance N p)
