use Rattle.std.proofs.Common.{◌≡◌, get_or, rules}
use Rattle.hb_unify.proofs.GivingLemmas.{write_at_is}
use Rattle.hb_unify.proofs.giving.write_at.Goals as goal

pub returns : goal.returns
returns c =
    let e : c.index.result.now ≡ get_or c.args.holes.items c.args.at c.index.result.now = search (rules, c.index.ensures) in
    write_at_is c.args.holes.items c.args.at c.index.result.now c.args.value c.requires e
