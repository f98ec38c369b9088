use Rattle.hb_hier.proofs.hier.Hier.need.Goals as goal

pub returns-in-Missing : goal.returns-in-Missing
returns-in-Missing c =
    let n = c.requires.takes.needs c.args.at c.requires.within in
    absurd (c.in-Missing.ensures n.0 n.1)
