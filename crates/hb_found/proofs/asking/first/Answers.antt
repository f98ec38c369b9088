use Rattle.std.proofs.Common.{◌≡◌}
use Rattle.hb_term.specs.Meaning.{tree}
use Rattle.hb_found.specs.Plain.{setting}
use Rattle.hb_found.proofs.FrameLemmas.{has_seen}
use Rattle.hb_found.proofs.asking.first.Goals as goal

pub returns-in_ok-t-in-Has-clause-then : goal.returns-in_ok-t-in-Has-clause-then
returns-in_ok-t-in-Has-clause-then c =
    let e : tree c.in_ok-t-in-Has.t ≡ c.args.walker.next = rw c.in_ok-t-in-Has.ensures c.as_ref.ensures in
    has_seen (setting c.args.reads) c.args.depth c.args.walker c.args.sight c.in-Has.key c.in_ok-t-in-Has.t c.requires.on c.requires.sight c.in-Has.is e
