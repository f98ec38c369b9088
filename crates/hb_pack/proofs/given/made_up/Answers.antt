use Rattle.std.proofs.Common.{◌≡◌, ◌++◌, ◌∙◌, ap, codes, decimal, sym}
use Rattle.hb_generated.specs.Names.{number}
use Rattle.hb_pack.proofs.NamingLemmas.{number_in}
use Rattle.hb_pack.proofs.given.made_up.Goals as goal

pub returns-clause-number : goal.returns-clause-number
returns-clause-number c N p =
    let text = c.deref.result.now in
    let e : text ≡ codes "HB_inst_" ++ decimal c.args.number = c.deref.ensures ∙ c.in_ok-text.ensures.ok in
    ap (number N) (sym e) ∙ number_in c.number.new.self N text c.in_ok-number.field-0.0 c.in_ok-number.ensures.unique c.in_ok-number.ensures.number p
