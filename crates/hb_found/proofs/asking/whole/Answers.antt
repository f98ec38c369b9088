use Rattle.std.proofs.Common.{◌≡◌}
use Rattle.hb_term.specs.Meaning.{tree}
use Rattle.hb_found.specs.Plain.{setting}
use Rattle.hb_found.proofs.FrameLemmas.{whole_at}
use Rattle.hb_found.proofs.asking.whole.Goals as goal

pub returns-clause-then : goal.returns-clause-then
returns-clause-then c =
    let e : tree c.in_ok-t.t ≡ c.args.frame.walker.next = rw c.in_ok-t.ensures c.as_ref.ensures in
    whole_at (setting c.args.reads) c.args.depth c.args.frame c.in_ok-t.t c.requires.asking c.requires.all e
