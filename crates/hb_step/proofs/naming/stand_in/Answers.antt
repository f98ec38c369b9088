use Rattle.hb_step.proofs.NameLemmas.{in_all}
use Rattle.hb_step.proofs.naming.stand_in.Goals as goal

pub returns-then-stands_before : goal.returns-then-stands_before
returns-then-stands_before c _ =
    in_all
    c.args.decls.now
    c.loop-decl.decl-index
    c.name_count.result
    c.args.name.0
    c.decl-item.result
    c.loop-decl-test.true
    c.decl-item.is
    c.name_count.ensures
    (c.stands_before.ensures c.if-stands_before.true)
